-- What is known of the embeddings of a word, and of the demands of a name, gone through from the front.
use Rattle.std.proofs.Common.{◌≡◌, List, ◌∷◌, Option, Some, None, refl, arith}
use Rattle.av_name.specs.declared.constraints.Known.TheVariants.{Inside, Outside, Open}
use Rattle.av_split.specs.Split.{Demand, demand_known}
use Rattle.av_split.specs.Boxes.{Question, Box, word_rules}
use Rattle.av_split.specs.Cells.{or_first}
use Rattle.av_split.specs.Gathering.{demand_question, Told, Gathers, IsBroken}

-- demands that are gone through one by one
pub told_start : (b : Box) (ds : List (Demand Question)) → Told b None ds ds
told_start b ds = record { known = refl; first = refl }

pub gather_passed : (b : Box) (old new : Option Question) (ds es : List (Demand Question)) (d : Demand Question) → demand_known (word_rules.known b) d ≡ Inside → Gathers b old ds new (d ∷ es) → Gathers b old ds new es
gather_passed b old new ds es d e g xs rest h = let t = g xs rest h in record { known = grind arith; first = grind arith }

pub gather_broken : (b : Box) (old new : Option Question) (ds es : List (Demand Question)) (d : Demand Question) → demand_known (word_rules.known b) d ≡ Outside → Gathers b old ds new (d ∷ es) → IsBroken b old ds
gather_broken b old new ds es d e g xs rest h = let t = g xs rest h in grind arith

pub gather_kept : (b : Box) (old kept new : Option Question) (ds es : List (Demand Question)) (d : Demand Question) (q : Question) → demand_known (word_rules.known b) d ≡ Open → demand_question b d ≡ Some q → new ≡ or_first kept q
    → Gathers b old ds kept (d ∷ es) → Gathers b old ds new es
gather_kept b old kept new ds es d q e f n g xs rest h = let t = g xs rest h in record { known = grind arith; first = grind arith }
