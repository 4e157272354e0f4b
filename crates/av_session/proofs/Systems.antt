-- The system of a script whose class is settled.
use Rattle.std.proofs.Common.{◌≡◌, ℕ, suc, ◌≤◌, ◌↔◌, inl, inr, List, [], ◌∷◌, length, get_or, All, true, slice_get, Some, ◌<◌, ◌+◌, ◌^◌, ◌==◌, if◌then◌else◌, unwrap_or, Option, None, refl, sym, ap, ◌∙◌, subst, arith}
use Rattle.std.specs.List.{filter}
use Rattle.std.specs.Option.{option_map}
use Rattle.std.proofs.lemmas.Bool.{cases_Bool}
use Rattle.std.proofs.lemmas.Option.{slice_get_within, slice_get-get_or, get_or_from_slice_get}
use Rattle.std.proofs.lemmas.List.Elements.{All-get_or}
use Rattle.av_perm.specs.declared.limits.TheConstants.{MAX_PATTERN_LENGTH, MAX_ROOT_LENGTH}
use Rattle.av_perm.specs.Members.{In}
use Rattle.av_perm.specs.Class.{minimal, top}
use Rattle.av_perm.specs.Gap.{simples_below}
use Rattle.av_perm.specs.Word.{is_perm, ArePerms}
use Rattle.av_perm.specs.Relations.{IsWord, AreWords, Contains, InClass, InClassWith}
use Rattle.av_perm.proofs.Membership.{Each, at_In, each_all, all_each}
use Rattle.av_perm.proofs.PermWords.{perm_to}
use Rattle.av_perm.proofs.MinimalWords.{minimal_is, minimal_again, minimal_words}
use Rattle.av_perm.proofs.TopWords.{top_is, top_again, top_words, contains_top}
use Rattle.av_perm.proofs.Classes.{minimal_holds}
use Rattle.av_perm.proofs.Gaps.{below_list, gap_law}
use Rattle.av_sys.specs.declared.names.Name.{Name}
use Rattle.av_sys.specs.declared.terms.Term.{Term}
use Rattle.av_sys.specs.declared.terms.Equation.{Equation}
use Rattle.av_sys.specs.declared.terms.System.{System}
use Rattle.av_sys.specs.Names.{IsMadeOfWords}
use Rattle.av_sys.specs.Terms.{IsWellFormed, AreNamedByWords}
use Rattle.av_sys.specs.TreeLists.{members}
use Rattle.av_sys.specs.Exact.{Exact, Named}
use Rattle.av_build.specs.Canonical.{IsCanonical, first_name, grow, equations_of, as_system}
use Rattle.av_build.specs.Laws.{AreRoots}
use Rattle.av_build.proofs.ShortNames.{IsShortOver, first_short, class_short}
use Rattle.av_build.proofs.CanonicalForm.{canonical_form_law}
use Rattle.av_build.proofs.ExactAlways.{exact_law}
use Rattle.av_build.proofs.LeanForm.{lean_form_law}
use Rattle.av_build.proofs.LeanKeeps.{kept_law, lean_members_law, lean_named_law}
use Rattle.av_build.proofs.LeanExact.{lean_exact_law}
use Rattle.av_build.specs.Lean.{kept, lean}
use Rattle.av_build.specs.Built.{IsSystemOf}
use Rattle.av_simple.specs.Searched.{gap_of}
use Rattle.av_print.proofs.ReadSystems.{system_text_once}
use Rattle.av_union.specs.declared.limits.TheConstants.{MAX_OVERLAY_LENGTH}
use Rattle.av_union.specs.Union.{AreShortTogether, is_in_both, longest, words_up_to, union}
use Rattle.av_union.proofs.Unions.{union_law}
use Rattle.av_text.specs.declared.script.Script.{Script}
use Rattle.av_text.specs.Ranges.{IsPattern, IsPatternLine, KeepsLimits, required}
use Rattle.av_text.proofs.Kept.{read_kept}
use Rattle.av_session.specs.Solved.{basis_with, basis_of, lists_of, IsBasis, AreRequiredWords}
use Rattle.av_session.specs.declared.subject.Subject.{Subject}
use Rattle.av_session.specs.Classes.{required_of, in_format, IsSettledClass}
use Rattle.av_session.specs.Due.{settled_text, script_text, text_due}
use Rattle.av_session.specs.Runs.{due, WritesSystem}
use Rattle.av_session.proofs.AllowedOptions.{options_allowed}
use Rattle.av_session.proofs.Abouts.{are_words, basis_are_words, settled_same, required_are_words, class_same, reduced_required}
use Rattle.av_session.proofs.SolvedClasses.{IsSettledAs, settled_as}
use Rattle.av_session.proofs.ClassAnswers.{has_answers}

-- words that are some of a line of patterns are as short as these
short_of : (ws some : List (List ℕ)) → IsPatternLine ws → ((w : List ℕ) → In w some → In w ws) → All (λ w. length w ≤ MAX_PATTERN_LENGTH) some
short_of ws some k among = each_all (λ w. length w ≤ MAX_PATTERN_LENGTH) some short
  where
    short : Each (λ w. length w ≤ MAX_PATTERN_LENGTH) some
    short w i = let p = at_In ws w [] (among w i) in subst (λ v. length v ≤ MAX_PATTERN_LENGTH) p.2 (All-get_or IsPattern ws p.0 [] p.1 k.words).short

-- a word of the basis of a union is no longer than an overlay may be
union_short : (first second : List (List ℕ)) (w : List ℕ) → AreWords first → AreWords second → AreShortTogether first second → In w (union first second) → length w ≤ MAX_OVERLAY_LENGTH
union_short first second w f g short i =
    let s = ((union_law first second f g).spanned w i).spans in
    omega (arith, short s.0 s.1 s.2 s.3, s.6)

-- the basis that two lists give, where there is a second or not, has no word of more than MAX_PATTERN_LENGTH entries
with_short : (first : List (List ℕ)) (o : Option (List (List ℕ))) → IsPatternLine first → IsPatternLine (unwrap_or o []) → AreShortTogether first (unwrap_or o [])
    → All (λ w. length w ≤ MAX_PATTERN_LENGTH) (minimal (basis_with first o))
with_short first None f g short = short_of first (minimal first) f (λ w i. ((minimal_is first w).0 i).member)
with_short first (Some second) f g short = each_all (λ w. length w ≤ MAX_PATTERN_LENGTH) (minimal (union first second)) (λ w i.
    let h = union_short first second w (are_words first f.words) (are_words second g.words) short ((minimal_is (union first second) w).0 i).member in omega (arith, h))

-- the minimal words of a script's basis
pub basis_kept : (script : Script) → KeepsLimits script → IsBasis (minimal (basis_of script))
basis_kept script k = record {
  reduced = minimal_again (basis_of script);
  short = with_short script.basis script.union_with k.basis k.second k.short;
}

-- the words of a script's two lines are short together, where it has a union line
pub short_lists : (script : Script) (second : List (List ℕ)) → KeepsLimits script → script.union_with ≡ Some second → AreShortTogether script.basis second
short_lists script second k is = subst (λ o. AreShortTogether script.basis (unwrap_or o [])) is k.short

-- the basis of a union is reduced already
pub union_reduced : (first second : List (List ℕ)) → union first second ≡ minimal (union first second)
unfolding union
union_reduced first second = sym (minimal_again (filter (is_in_both first second) (words_up_to (longest first + longest second))))

-- the maximal of its required words but for the word 1
pub tops_of : (script : Script) → KeepsLimits script → AreRequiredWords (top (required script))
tops_of script k = record {
  reduced = top_again (required script);
  short = short_of (required script) (top (required script)) k.required (λ w i. ((top_is (required script) w).0 i).member);
}

-- the same, where it has a line of them or not
pub required_are : (script : Script) → KeepsLimits script → AreRequiredWords (unwrap_or (option_map top script.require) [])
required_are script k = subst AreRequiredWords (sym (reduced_required script.require)) (tops_of script k)

-- the simple words below a gap
pub below_roots : (basis : List (List ℕ)) (g : ℕ) → suc g ≤ MAX_ROOT_LENGTH → AreRoots (simples_below basis g)
below_roots basis g h w i = let b = ((below_list basis g).members w).0 i in (b.simple, omega (arith, b.short))

-- the name of an equation was found
name_found : (found : List Name) (written : List (List Term)) (e : Equation) → In e (equations_of found written) → In e.name found
name_found [] written e i = absurd i
name_found (n ∷ found) [] e i = absurd i
name_found (n ∷ found) (ts ∷ written) e (inl q) = inl (ap (λ (x : Equation). x.name) q)
name_found (n ∷ found) (ts ∷ written) e (inr i) = inr (name_found found written e i)

-- words of at most MAX_PATTERN_LENGTH entries are those that the types hold
are_perms : (ws : List (List ℕ)) → Each IsWord ws → Each (λ w. length w ≤ MAX_PATTERN_LENGTH) ws → ArePerms ws
are_perms ws words short = each_all (λ w. is_perm w ≡ true) ws (λ w i. perm_to w (words w i) (omega (arith, short w i)))

-- the names of what has grown are made of such words
grown_names : (basis required roots : List (List ℕ)) (j : ℕ) → AreWords basis → AreWords required → All (λ w. length w ≤ MAX_PATTERN_LENGTH) basis
    → All (λ w. length w ≤ MAX_PATTERN_LENGTH) required → AreNamedByWords (as_system (grow basis required roots j))
grown_names basis required roots j words wanted short short_required =
    each_all (λ e. IsMadeOfWords e.name) (as_system (grow basis required roots j)).equations (λ e i. let k = name e i in record {
      avoided = are_perms e.name.avoid k.over.avoids k.short.avoid;
      required = are_perms e.name.require k.over.requires k.short.require;
    })
  where
    first : IsShortOver basis MAX_PATTERN_LENGTH (first_name basis required)
    first = first_short basis required MAX_PATTERN_LENGTH words wanted (all_each (λ w. length w ≤ MAX_PATTERN_LENGTH) basis short)
        (all_each (λ w. length w ≤ MAX_PATTERN_LENGTH) required short_required)

    name : (e : Equation) → In e (as_system (grow basis required roots j)).equations → IsShortOver basis MAX_PATTERN_LENGTH e.name
    name e i = class_short basis roots (first_name basis required) MAX_PATTERN_LENGTH j first e.name
        (name_found (grow basis required roots j).found (grow basis required roots j).written e i)

-- bases and required words that make the same class are described by the same systems
exact_same : (A B P Q : List (List ℕ)) (S : System) → ((σ : List ℕ) → InClassWith A P σ ↔ InClassWith B Q σ) → Exact S A P → Exact S B Q
exact_same A B P Q S same e = record {
  sound = λ T v. let r = e.sound T v in record { member = (same _).0 r.member; long = r.long };
  complete = λ σ c. e.complete σ ((same σ).1 c);
  once = e.once;
}

-- the lean system is named by words where the system is
lean_names : (S : System) → IsWellFormed S → AreNamedByWords S → AreNamedByWords (lean S)
lean_names S form named v e lt =
    let k = kept_law S form in
    let u = get_or (kept S) v 0 in
    let here : slice_get (kept S) v ≡ Some (get_or (kept S) v 0) = slice_get-get_or (kept S) v 0 (omega (arith, k.count)) in
    let stem = k.stems v (get_or (kept S) v 0) here in
    let new : get_or (lean S).equations v e ≡ stem.new = get_or_from_slice_get (lean S).equations v stem.new e stem.at_new in
    let old : get_or S.equations (get_or (kept S) v 0) e ≡ stem.old = get_or_from_slice_get S.equations (get_or (kept S) v 0) stem.old e stem.at_old in
    let words = named (get_or (kept S) v 0) e (slice_get_within S.equations (get_or (kept S) v 0) stem.old stem.at_old) in
    subst (λ (x : Equation). IsMadeOfWords x.name) (sym new)
    (subst IsMadeOfWords (sym stem.named) (subst (λ (x : Equation). IsMadeOfWords x.name) old words))

-- what holds of a system and of its lean system holds of it in every format
in_each_format : (P : System → Type 0) (S : System) (format : ℕ) → P S → P (lean S) → P (in_format format S)
in_each_format P S format whole pruned = elim (cases_Bool (format == 1)) [
  | inl e ↦ subst P (sym (ap (λ b. if b then S else lean S) e)) whole
  | inr e ↦ subst P (sym (ap (λ b. if b then S else lean S) e)) pruned
]

-- a system that was built makes a settled class, in every format
pub settled_in_format : (subject : Subject) (gap format limit : ℕ) (roots : List (List ℕ)) (S : System) → gap_of subject.found ≡ Some gap
    → roots ≡ simples_below subject.found.basis gap → IsSystemOf subject.found.basis (required_of subject) roots limit S
    → IsSettledClass (record { subject = subject; gap = gap; format = format; system = in_format format S })
settled_in_format subject gap format limit roots S settled is made =
    let g = ((gap_law.settled subject.found.basis subject.found.limit gap).0 settled).gap in
    let all = made.exact gap g is in
    let exact : Exact S subject.found.basis (required_of subject) = all.0 in
    let named : Named S = all.1 in
    record {
      form = in_each_format IsWellFormed S format made.form (lean_form_law S made.form).form;
      exact = in_each_format (λ T. Exact T subject.found.basis (required_of subject)) S format exact (lean_exact_law S subject.found.basis (required_of subject) made.form exact);
      named = in_each_format Named S format named ((lean_named_law S made.form).always named);
    }

-- the system of a run
pub writes_system : (words : List (List ℕ)) → WritesSystem words
unfolding due text_due script_text settled_text
writes_system words bytes o script class accepted unchecked said is = record {
  text = rw (accepted, said, is) refl;
  searched = made.subject;
  gap = (settled_same (minimal (basis_of script)) (basis_of script) same o.max_simple class.gap).0 made.settled;
  only = λ n T small formed named e. system_text_once n class.format T class.system small version formed form named names e;
  format = made.chosen;
  whole = whole;
  canonical = canonical;
  printed = printed;
  same_members = λ n. subst (λ S. members S n ≡ members whole n) (sym printed)
      (in_each_format (λ S. members S n ≡ members whole n) whole script.format refl (lean_members_law whole n form_whole));
  form = form;
  exact = exact;
  named = named;
  answers = has_answers (basis_of script) (required script) class form exact same_found contained;
}
  where
    kept : KeepsLimits script
    kept = read_kept bytes script said

    words_of_basis : AreWords (basis_of script)
    words_of_basis = basis_are_words script kept

    made : IsSettledAs o (lists_of script) (minimal (basis_of script)) (option_map top script.require) script.format class
    made = settled_as o (lists_of script) (minimal (basis_of script)) (option_map top script.require) script.format class is

    version : class.format < 2 ^ 8
    version = let f = made.chosen in omega (arith, kept.format.most)

    same : (σ : List ℕ) → InClass (minimal (basis_of script)) σ ↔ InClass (basis_of script) σ
    same = (minimal_holds (basis_of script)).same_class words_of_basis

    are : AreWords (minimal (basis_of script))
    are = minimal_words (basis_of script) words_of_basis

    tops : AreWords (top (required script))
    tops = top_words (required script) (required_are_words script kept)

    small : suc class.gap ≤ MAX_ROOT_LENGTH
    small = let p = (gap_law.settled (minimal (basis_of script)) o.max_simple class.gap).0 made.settled in omega (arith, p.within, (options_allowed words o accepted).high)

    whole : System
    whole = as_system (grow (minimal (basis_of script)) (unwrap_or (option_map top script.require) []) (simples_below (minimal (basis_of script)) class.gap) o.max_size)

    canonical : IsCanonical (minimal (basis_of script)) (top (required script)) (simples_below (minimal (basis_of script)) class.gap) o.max_size whole
    canonical = subst (λ ws. IsCanonical (minimal (basis_of script)) ws (simples_below (minimal (basis_of script)) class.gap) o.max_size whole) (reduced_required script.require)
        (record { fits = made.within; system = refl })

    printed : class.system ≡ in_format script.format whole
    printed = made.system

    form_whole : IsWellFormed whole
    form_whole = canonical_form_law (minimal (basis_of script)) (top (required script)) (simples_below (minimal (basis_of script)) class.gap) o.max_size whole are tops canonical
        (omega (arith, (options_allowed words o accepted).few)) (below_roots (minimal (basis_of script)) class.gap small)

    form : IsWellFormed class.system
    form = subst IsWellFormed (sym printed) (in_each_format IsWellFormed whole script.format form_whole (lean_form_law whole form_whole).form)

    names_whole : AreNamedByWords whole
    names_whole = subst AreNamedByWords (sym canonical.system)
        (grown_names (minimal (basis_of script)) (top (required script)) (simples_below (minimal (basis_of script)) class.gap) o.max_size are tops (basis_kept script kept).short (tops_of script kept).short)

    names : AreNamedByWords class.system
    names = subst AreNamedByWords (sym printed) (in_each_format AreNamedByWords whole script.format names_whole (lean_names whole form_whole names_whole))

    same_found : (σ : List ℕ) → InClass class.subject.found.basis σ ↔ InClass (basis_of script) σ
    same_found = subst (λ (x : Subject). (σ : List ℕ) → InClass x.found.basis σ ↔ InClass (basis_of script) σ) (sym made.subject) same

    contained : (σ : List ℕ) → IsWord σ → Each (Contains σ) (required_of class.subject) → Each (Contains σ) (required script)
    contained σ w h = (contains_top (required script) σ (required_are_words script kept) w).0
        (subst (λ ws. Each (Contains σ) ws) (ap required_of made.subject ∙ reduced_required script.require) h)

    all : Exact whole (minimal (basis_of script)) (top (required script)) × Named whole
    all = exact_law (minimal (basis_of script)) (top (required script)) class.gap o.max_size whole are tops
        ((gap_law.settled (minimal (basis_of script)) o.max_simple class.gap).0 made.settled).gap canonical

    exact_whole : Exact whole (basis_of script) (required script)
    exact_whole = exact_same (minimal (basis_of script)) (basis_of script) (top (required script)) (required script) whole (class_same script kept) all.0

    exact : Exact class.system (basis_of script) (required script)
    exact = subst (λ S. Exact S (basis_of script) (required script)) (sym printed)
        (in_each_format (λ S. Exact S (basis_of script) (required script)) whole script.format exact_whole (lean_exact_law whole (basis_of script) (required script) form_whole exact_whole))

    named : Named class.system
    named = subst Named (sym printed) (in_each_format Named whole script.format all.1 ((lean_named_law whole form_whole).always all.1))
