-- The texts of answers that are computed before they are written.
use Rattle.std.specs.Prelude.{ℕ, List, codes, decimal}
use Rattle.av_print.specs.Text.{◌⊹◌, word_text, places_text, count_text}
use Rattle.av_session.specs.declared.draws.Summary.{Summary}
use Rattle.av_session.specs.declared.ranks.Unranked.{Unranked}
use Rattle.av_session.specs.declared.ranks.Unranked.TheVariants.{Member, NoneOf}
use Rattle.av_session.specs.declared.ranks.Place.{Place}
use Rattle.av_session.specs.declared.ranks.Place.TheVariants.{At, Big, Bad, Lacks}

abbrev pub unranked_shown : Unranked → List ℕ
unranked_shown (Member w) = word_text w
unranked_shown (NoneOf count) = codes "none of " ⊹ count_text count

abbrev pub place_shown : Place → List ℕ
place_shown (At r) = decimal r
place_shown Big = codes "big"
place_shown (Bad pattern places) = codes "no " ⊹ word_text pattern.now ⊹ codes " at " ⊹ places_text places
place_shown (Lacks pattern) = codes "lacks " ⊹ word_text pattern.now

abbrev pub summary_shown : Summary → List ℕ
summary_shown s = codes "least " ⊹ decimal s.least ⊹ codes " most " ⊹ decimal s.most ⊹ codes " total " ⊹ decimal s.total
