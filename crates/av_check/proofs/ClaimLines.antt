-- Claims are read in one way, and reading stops where a line isn't as demanded.
use Rattle.std.proofs.Common.{◌≡◌, ◌⊎◌, inl, inr, ℕ, suc, ◌+◌, ◌-◌, ◌<◌, List, [], ◌∷◌, ◌++◌, length, Option, Some, None, Err, codes, refl, sym, ap, subst, ◌∙◌, append_assoc, append-nil, arith}
use Rattle.std.proofs.lemmas.List.{length-append}
use Rattle.av_sys.specs.declared.terms.System.{System}
use Rattle.av_print.specs.Systems.{terms_count}
use Rattle.av_check.specs.declared.claim.Claim.{Claim}
use Rattle.av_check.specs.declared.reading.claims.Front.{Front}
use Rattle.av_check.specs.declared.reading.claims.Stop.{Stop}
use Rattle.av_check.specs.declared.reading.claims.Stop.TheVariants as stop
use Rattle.av_check.specs.Claims.{TellsWords, TellsCounts, AreFirstLines, AreSystemLines, AreClaimLines, AreAsDemanded, IsFault}
use Rattle.av_check.specs.Reading.{FirstIs, IsVersion, IsUnion, IsSimplesLine, IsGapLine, IsWithoutRequired, TellsEquation, TakesFirst, TakesSystem, TakesClaim, StopsAtBasis, StopsAtCounts, StopsInSystem, StopsAtEnd, StopsAtFault, ReadsFirst, ReadsSystem, ReadsClaim}
use Rattle.av_check.proofs.Passing.{Leads, leads_first, leads_append, leads_passed, leads_one}
use Rattle.av_check.proofs.Taking.{passed_optional}
use Rattle.av_check.proofs.FirstLines.{first_stop, first_once}
use Rattle.av_check.proofs.SystemLines.{system_ordered, counts_stop, equation_stop, system_once, without_required}
use Rattle.av_check.proofs.Demanded.{CanEnd, equations_can_end, counts_can_end, demanded_after, demanded_first}

-- no line of required words comes next, whatever comes after that
leads_without : (needed : Option (List (List ℕ))) (x left : List (List ℕ)) → Leads x left → IsWithoutRequired needed left → IsWithoutRequired needed x
leads_without None x left e w = λ ws f. w ws (leads_first (TellsWords (codes "require") ws) x left e f)
leads_without (Some ws) x left e w = tt

-- lines of which there are some are led by themselves
leads_more : (o z : List (List ℕ)) → 0 < length o → Leads (o ++ z) o
leads_more [] z some = absurd (omega arith)
leads_more (l ∷ o) z some = refl

-- a system has some
lines_some : (S : System) (terms : ℕ) (lines : List (List ℕ)) → AreSystemLines S terms lines → 0 < length lines
lines_some S terms lines f =
    omega (arith, ap length f.in_order, length-append f.simples (f.gap ++ (f.counts ∷ f.equations)), length-append f.gap (f.counts ∷ f.equations))

-- the lines after the first ones of a claim
others_once : (b : List (List ℕ)) (r : Option (List (List ℕ))) (first u : List (List ℕ)) → AreFirstLines b r first → IsWithoutRequired r u
    → (claim : Claim) (terms : ℕ) (all : List (List ℕ)) (t : AreClaimLines claim terms all) → first ++ u ≡ all → (b ≡ claim.basis) × (r ≡ claim.require) × (u ≡ t.others)
others_once b r first u f w claim terms all t e =
    first_once b claim.basis r claim.require first t.first u t.others f t.are_first w (without_required claim.system terms t.others t.are_others claim.require) (e ∙ t.in_order)

-- claims with the same lines before others are equal, and so are those others
pub claim_once : (c d : Claim) (m n : ℕ) (ls ms x y : List (List ℕ)) → AreClaimLines c m ls → AreClaimLines d n ms → ls ++ x ≡ ms ++ y → (c ≡ d) × (m ≡ n) × (x ≡ y)
claim_once c d m n ls ms x y t s e =
    let a = first_once c.basis d.basis c.require d.require t.first s.first (t.others ++ x) (s.others ++ y) t.are_first s.are_first (without c m t.others x t.are_others)
    (without d n s.others y s.are_others) (regroup t.first t.others x ls t.in_order ∙ e ∙ sym (regroup s.first s.others y ms s.in_order)) in
    let b = system_once c.system d.system m n t.others s.others x y t.are_others s.are_others a.2 in
    (λ i. record { basis = a.0 i; require = a.1 i; system = b.0 i }, b.1, b.2)
  where
    regroup : (f o z all : List (List ℕ)) → all ≡ f ++ o → f ++ (o ++ z) ≡ all ++ z
    regroup f o z all g = sym (append_assoc f o z) ∙ ap (λ (l : List (List ℕ)). l ++ z) (sym g)

    without : (k : Claim) (p : ℕ) (o z : List (List ℕ)) → AreSystemLines k.system p o → IsWithoutRequired k.require (o ++ z)
    without k p o z g = leads_without k.require (o ++ z) o (leads_more o z (lines_some k.system p o g)) (without_required k.system p o g k.require)

-- reading stops where no claim has the lines that were taken and the next
stops_from : (old new taken : List (List ℕ)) → old ≡ taken ++ new → AreAsDemanded taken
    → ((claim : Claim) (terms : ℕ) (x : List (List ℕ)) → Leads x new → AreClaimLines claim terms (taken ++ x) → ⊥) → StopsAtFault old new
stops_from old new taken cut demanded none = record {
  taken = taken;
  cut = cut;
  demanded = demanded;
  fault = λ line others e d.
      none d.claim d.terms (line ∷ d.others) (leads_one line others new d.others e)
      (subst (AreClaimLines d.claim d.terms) (append_assoc taken (line ∷ []) d.others) d.told);
  no_end = λ line others e d. none d.claim _ [] tt (subst (AreClaimLines d.claim _) (sym (append-nil taken)) d.told);
}

-- before the line of the basis
pub stops_first : (old new : List (List ℕ)) → StopsAtBasis old new → StopsAtFault old new
stops_first old new s =
    stops_from old new (s.version ++ s.union) (s.cut ∙ sym (append_assoc s.version s.union new))
    (demanded_first s.version s.union (passed_optional IsVersion s.version _ s.is_version) (passed_optional IsUnion s.union _ s.is_union))
    (λ claim terms x e t.
    first_stop s.version s.union x (leads_passed IsVersion s.version _ _ (leads_append s.union x new e) s.is_version) (leads_passed IsUnion s.union x new e s.is_union)
    (λ ws f. s.none ws (leads_first (TellsWords (codes "basis") ws) x new e f)) claim.basis claim.require t.first t.others t.are_first
    (sym (append_assoc s.version s.union x) ∙ t.in_order))

-- after the first lines, where the lines that were taken can be followed by those of a system
stops_after : (front : Front) (old mid new lines : List (List ℕ)) (terms : ℕ) (f : TakesFirst front old mid) → mid ≡ lines ++ new → CanEnd terms lines
    → ((S : System) (n : ℕ) (x all : List (List ℕ)) → Leads x new → AreSystemLines S n all → lines ++ x ≡ all → ⊥) → StopsAtFault old new
stops_after front old mid new lines terms f cut can none =
    stops_from old new (f.taken ++ lines) (f.cut ∙ ap (λ (l : List (List ℕ)). f.taken ++ l) cut ∙ sym (append_assoc f.taken lines new))
    (demanded_after front.basis front.require terms f.taken lines f.lines can)
    (λ claim n x e t.
    let after = leads_without front.require (lines ++ x) mid (subst (Leads (lines ++ x)) (sym cut) (leads_append lines x new e)) f.after in
    let o = others_once front.basis front.require f.taken (lines ++ x) f.lines after claim n ((f.taken ++ lines) ++ x) t (sym (append_assoc f.taken lines x)) in
    none claim.system n x t.others e t.are_others o.2)

pub stops_counts : (front : Front) (old mid new : List (List ℕ)) → TakesFirst front old mid → StopsAtCounts mid new → StopsAtFault old new
stops_counts front old mid new f s =
    stops_after front old mid new (s.simples ++ s.gap) 0 f (s.cut ∙ sym (append_assoc s.simples s.gap new))
    (counts_can_end s.simples s.gap (passed_optional IsSimplesLine s.simples _ s.is_simples) (passed_optional IsGapLine s.gap _ s.is_gap))
    (λ S n x all e g h.
    counts_stop s.simples s.gap x (leads_passed IsSimplesLine s.simples _ _ (leads_append s.gap x new e) s.is_simples) (leads_passed IsGapLine s.gap x new e s.is_gap)
    (λ p q k. s.none p q (leads_first (TellsCounts p q) x new e k)) (length S.equations) n (all ++ []) _ (system_ordered S n all [] g)
    (sym (append_assoc s.simples s.gap x) ∙ h ∙ sym (append-nil all)))

pub stops_within : (front : Front) (old mid new : List (List ℕ)) → TakesFirst front old mid → StopsInSystem mid new → StopsAtFault old new
stops_within front old mid new f s =
    let c = s.takes in
    let t = s.stops in
    stops_after front old mid new (c.simples ++ (c.gap ++ (c.counts ∷ t.takes.taken))) s.terms f
    (c.cut ∙ ap (λ (l : List (List ℕ)). c.simples ++ (c.gap ++ (c.counts ∷ l))) t.takes.cut ∙ sym (regroup c.simples c.gap (c.counts ∷ t.takes.taken) new))
    (equations_can_end s.count s.terms c.simples c.gap c.counts t.list t.takes.taken c.is_simples c.is_gap c.are_counts t.takes.lines (let few = t.few in omega arith) t.takes.each)
    (λ S n x all e g h.
    equation_stop s.count s.terms c.simples c.gap c.counts t.list t.takes.taken x c.is_simples c.is_gap c.are_counts t.takes.lines t.few
    (λ d k. t.none d (leads_first (TellsEquation s.count (length t.list) d) x new e k)) S n all [] g
    (sym (regroup c.simples c.gap (c.counts ∷ t.takes.taken) x) ∙ h ∙ sym (append-nil all)))
  where
    regroup : (x y z w : List (List ℕ)) → (x ++ (y ++ z)) ++ w ≡ x ++ (y ++ (z ++ w))
    regroup x y z w = append_assoc x (y ++ z) w ∙ ap (λ (l : List (List ℕ)). x ++ l) (append_assoc y z w)

-- in the place of the line that ends the claim
pub stops_end : (front : Front) (old mid new : List (List ℕ)) → TakesFirst front old mid → StopsAtEnd mid new → StopsAtFault old new
stops_end front old mid new f s = record {
  taken = f.taken ++ s.taken;
  cut = f.cut ∙ ap (λ (l : List (List ℕ)). f.taken ++ l) s.cut ∙ sym (append_assoc f.taken s.taken new);
  demanded = record {
    claim = record { basis = front.basis; require = front.require; system = s.system };
    terms = s.terms;
    others = [];
    told = subst (AreClaimLines _ s.terms) (sym (append-nil (f.taken ++ s.taken))) whole;
  };
  fault = λ line others e d.
      let r = claim_once _ d.claim s.terms d.terms (f.taken ++ s.taken) (((f.taken ++ s.taken) ++ line ∷ []) ++ d.others) (line ∷ d.others) [] whole d.told
      (sym (append_assoc (f.taken ++ s.taken) (line ∷ []) d.others) ∙ sym (append-nil _)) in
      cc;
  no_end = λ line others e d.
      let r = claim_once _ d.claim s.terms (terms_count d.claim.system.equations) (f.taken ++ s.taken) (f.taken ++ s.taken) [] [] whole d.told refl in
      s.none (r.1 ∙ ap (λ (c : Claim). terms_count c.system.equations) (sym r.0)) (subst (FirstIs (λ l. l ≡ codes "end")) (sym e) d.text);
}
  where
    whole : AreClaimLines (record { basis = front.basis; require = front.require; system = s.system }) s.terms (f.taken ++ s.taken)
    whole = record { first = f.taken; others = s.taken; in_order = refl; are_first = f.lines; are_others = s.lines }

-- wherever it stops after the first lines
pub stops_system : (front : Front) (old mid new : List (List ℕ)) → TakesFirst front old mid → StopsAtCounts mid new ⊎ (StopsInSystem mid new ⊎ StopsAtEnd mid new)
    → StopsAtFault old new
stops_system front old mid new f (inl s) = stops_counts front old mid new f s
stops_system front old mid new f (inr (inl s)) = stops_within front old mid new f s
stops_system front old mid new f (inr (inr s)) = stops_end front old mid new f s

-- a claim whose lines were taken
pub takes_claim : (front : Front) (S : System) (old mid : List (List ℕ)) → TakesFirst front old mid → TakesSystem S mid
    → TakesClaim (record { basis = front.basis; require = front.require; system = S }) old
takes_claim front S old mid f s = record {
  taken = f.taken ++ s.taken;
  others = s.others;
  cut = f.cut ∙ ap (λ (l : List (List ℕ)). f.taken ++ l) s.cut ∙ sym (append_assoc f.taken s.taken (codes "end" ∷ s.others));
  lines = record { first = f.taken; others = s.taken; in_order = refl; are_first = f.lines; are_others = s.lines };
}

-- reading that stops is that of the claim
pub first_error : (s : Stop) (old new : List (List ℕ)) → ReadsFirst old new (Err s) → ReadsClaim old new (Err s)
first_error stop.Memory old new r = tt
first_error stop.Here old new r = stops_first old new r

pub system_error : (front : Front) (s : Stop) (old mid new : List (List ℕ)) → TakesFirst front old mid → ReadsSystem mid new (Err s) → ReadsClaim old new (Err s)
system_error front stop.Memory old mid new f r = tt
system_error front stop.Here old mid new f r = stops_system front old mid new f r

-- the number of the line where it stops
pub fault_number : (all left : List (List ℕ)) (n : ℕ) → StopsAtFault all left → (length left ≡ 0 → n ≡ 0) → (0 < length left → n ≡ (length all - length left) + 1) → IsFault all n
fault_number all [] n s zero some =
    subst (IsFault all) (sym (zero refl)) (subst AreAsDemanded (sym (s.cut ∙ append-nil s.taken)) s.demanded)
fault_number all (line ∷ others) n s zero some =
    let so_many : n ≡ suc (length s.taken) = omega (arith, some (omega arith), ap length s.cut, length-append s.taken (line ∷ others)) in
    subst (IsFault all) (sym so_many) (record {
      front = s.taken;
      line = line;
      others = others;
      in_order = s.cut;
      before = refl;
      demanded = s.demanded;
      fault = s.fault line others refl;
      no_end = s.no_end line others refl;
    })
