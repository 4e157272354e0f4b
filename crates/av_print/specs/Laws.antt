-- The laws of texts.
use Rattle.std.specs.Prelude.{◌≡◌, ℕ, ◌<◌, ◌^◌, Ok}
use Rattle.av_sys.specs.declared.terms.System.{System}
use Rattle.av_sys.specs.Terms.{IsWellFormed, AreNamedByWords}
use Rattle.av_text.specs.declared.queries.Query.{Query}
use Rattle.av_text.specs.declared.says.Says.TheVariants.{Asks}
use Rattle.av_text.specs.declared.says.Seen.{Seen}
use Rattle.av_text.specs.Queries.{IsInRange}
use Rattle.av_text.specs.Read.{line_said}
use Rattle.av_print.specs.Text.{query_text}
use Rattle.av_print.specs.Systems.{system_text}

-- two different pairs of a version, below 2 ^ 8, and a system have different texts
abbrev pub SystemTextLaw : Type 0
SystemTextLaw = (m n : ℕ) (S T : System) → m < 2 ^ 8 → n < 2 ^ 8 → IsWellFormed S → IsWellFormed T → AreNamedByWords S → AreNamedByWords T
    → system_text m S ≡ system_text n T → (m ≡ n) × (S ≡ T)

-- the canonical text of a query, read as a line of a script, is that query
abbrev pub QueryTextLaw : Type 0
QueryTextLaw = (seen : Seen) (q : Query) → IsInRange q → line_said seen (query_text q) ≡ Ok (Asks q)
