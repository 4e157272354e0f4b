-- The terms of a name, by their roots: each root with the sign of the first child, 12 and 21 where the sign lets them be, and
-- the simple roots.
use Rattle.std.proofs.Common.{◌≡◌, ℕ, suc, ◌⊎◌, inl, inr, List, [], ◌∷◌, ◌++◌, map, length, flat_map, Bool, true, false, cond, refl, sym, ap, subst}
use Rattle.std.proofs.lemmas.List.{length-map}
use Rattle.av_perm.specs.Relations.{sum_root, skew_root}
use Rattle.av_perm.proofs.Membership.{In, In_map, map_In, append_left, append_right, In_append_cases, In_flat_map, flat_map_In}
use Rattle.av_sys.specs.declared.names.Sign.{Sign}
use Rattle.av_sys.specs.declared.names.Sign.TheVariants.{C, P, M}
use Rattle.av_sys.specs.declared.names.Name.{Name}
use Rattle.av_split.specs.Boxes.{Box, boxes}
use Rattle.av_build.specs.Drafts.{Draft, point, node, name_of, child_names, root_drafts, has_point, point_drafts, sum_drafts, skew_drafts, drafts}

-- a root, with the sign of the first child
pub record Rooted : Type 0 where
  pub first : Sign
  pub root : List ℕ

abbrev pub sums : Rooted
sums = record { first = P; root = sum_root }

abbrev pub skews : Rooted
skews = record { first = M; root = skew_root }

abbrev pub simple_ones : List (List ℕ) → List Rooted
simple_ones [] = []
simple_ones (π ∷ simples) = record { first = C; root = π } ∷ simple_ones simples

-- those of a name with this sign
abbrev pub rooted : List (List ℕ) → Sign → List Rooted
rooted simples C = sums ∷ skews ∷ simple_ones simples
rooted simples P = skews ∷ simple_ones simples
rooted simples M = sums ∷ simple_ones simples

-- the terms of one
abbrev pub drafts_of : Name → Rooted → List Draft
drafts_of n r = root_drafts r.first n r.root

-- a name's terms are the point and those of its roots
pub drafts_are : (simples : List (List ℕ)) (n : Name) → drafts simples n ≡ point_drafts n ++ flat_map (drafts_of n) (rooted simples n.sign)
unfolding drafts
drafts_are simples n = ap (λ ds. point_drafts n ++ ds) (by n.sign)
  where
    each : (πs : List (List ℕ)) → flat_map (root_drafts C n) πs ≡ flat_map (drafts_of n) (simple_ones πs)
    each [] = refl
    each (π ∷ πs) = ap (λ ds. root_drafts C n π ++ ds) (each πs)

    by : (s : Sign) → sum_drafts n s ++ (skew_drafts n s ++ flat_map (root_drafts C n) simples) ≡ flat_map (drafts_of n) (rooted simples s)
    by C = ap (λ ds. root_drafts P n sum_root ++ (root_drafts M n skew_root ++ ds)) (each simples)
    by P = ap (λ ds. root_drafts M n skew_root ++ ds) (each simples)
    by M = ap (λ ds. root_drafts P n sum_root ++ ds) (each simples)

-- a box has as many names as constraints
pub length_names : (first : Sign) (box : Box) → length (child_names first box) ≡ length box
length_names first [] = refl
length_names first (c ∷ box) = ap suc (length-map box (name_of C))

-- behind the first child each has the sign C
pub later_names : (box : Box) → map (name_of C) box ≡ child_names C box
later_names [] = refl
later_names (c ∷ box) = refl

-- equal nodes have equal roots and equal names
pub node_parts : (root root' : List ℕ) (ns ns' : List Name) → node root ns ≡ node root' ns' → (root ≡ root') × (ns ≡ ns')
node_parts root root' ns ns' e = (cc, cc)

-- a term of a root has the names of a box
pub root_draft_In : (first : Sign) (n : Name) (root : List ℕ) (d : Draft) → In d (root_drafts first n root)
    → (box : Box) × In box (boxes root n.avoid n.require) × (d ≡ node root (child_names first box))
root_draft_In first n root d i = In_map (λ (box : Box). node root (child_names first box)) (boxes root n.avoid n.require) d i

-- the point is the only term without a root
pub point_is : (n : Name) (d : Draft) → In d (point_drafts n) → d ≡ point
point_is n d i = by (has_point n) i
  where
    by : (b : Bool) → In d (cond b (point ∷ []) []) → d ≡ point
    by true (inl e) = e
    by true (inr k) = absurd k
    by false k = absurd k

-- a term is the point, or one of a root
abbrev pub DraftCases : List (List ℕ) → Name → Draft → Type 0
DraftCases simples n d = In d (point_drafts n) ⊎ ((r : Rooted) × In r (rooted simples n.sign) × In d (drafts_of n r))

pub draft_cases : (simples : List (List ℕ)) (n : Name) (d : Draft) → In d (drafts simples n) → DraftCases simples n d
draft_cases simples n d i = elim (In_append_cases (point_drafts n) (flat_map (drafts_of n) (rooted simples n.sign)) d (subst (In d) (drafts_are simples n) i)) [
  | inl j ↦ inl j
  | inr j ↦ inr (In_flat_map (drafts_of n) (rooted simples n.sign) d j)
]

-- the point is one of them
pub in_point : (simples : List (List ℕ)) (n : Name) (d : Draft) → In d (point_drafts n) → In d (drafts simples n)
in_point simples n d i = subst (In d) (sym (drafts_are simples n)) (append_left (point_drafts n) (flat_map (drafts_of n) (rooted simples n.sign)) d i)

-- and each box of a root has one
pub in_rooted : (simples : List (List ℕ)) (n : Name) (r : Rooted) (box : Box) → In r (rooted simples n.sign) → In box (boxes r.root n.avoid n.require)
    → In (node r.root (child_names r.first box)) (drafts simples n)
in_rooted simples n r box i j =
    let d : Draft = node r.root (child_names r.first box) in
    subst (In d) (sym (drafts_are simples n)) (append_right (point_drafts n) (flat_map (drafts_of n) (rooted simples n.sign)) d
    (flat_map_In (drafts_of n) (rooted simples n.sign) r d i (map_In (λ (b : Box). node r.root (child_names r.first b)) (boxes r.root n.avoid n.require) box j)))
