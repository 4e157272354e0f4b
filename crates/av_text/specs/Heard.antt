-- What the lines of a script so far have said.
use Rattle.std.specs.Prelude.{ℕ, [], ◌∷◌, ◌++◌, is_some, Some, None, Result, option_to_list}
use Rattle.av_text.specs.declared.says.Says.{Says}
use Rattle.av_text.specs.declared.says.Says.TheVariants.{Nothing, Basis, Unites, Requires, Formats, Asks}
use Rattle.av_text.specs.declared.says.Seen.{Seen}
use Rattle.av_text.specs.declared.script.Script.{Script}
use Rattle.av_text.specs.declared.heard.Heard.{Heard}
use Rattle.av_text.specs.Read.{Fault, script_with}

-- before the first line
abbrev pub unheard : Heard
unheard = record { basis = None; union_with = None; require = None; format = None; queries = [] }

-- line number n says this
abbrev pub noted : ℕ → Heard → Says → Heard
noted n heard Nothing = heard
noted n heard (Basis ws) = record { basis = Some ws; union_with = heard.union_with; require = heard.require; format = heard.format; queries = heard.queries }
noted n heard (Unites ws) =
    record { basis = heard.basis; union_with = Some (record { line = n; words = ws }); require = heard.require; format = heard.format; queries = heard.queries }
noted n heard (Requires ws) = record { basis = heard.basis; union_with = heard.union_with; require = Some ws; format = heard.format; queries = heard.queries }
noted n heard (Formats m) = record { basis = heard.basis; union_with = heard.union_with; require = heard.require; format = Some m; queries = heard.queries }
noted n heard (Asks q) =
    record { basis = heard.basis; union_with = heard.union_with; require = heard.require; format = heard.format; queries = heard.queries ++ q ∷ [] }

-- what was seen
abbrev pub seen_of : Heard → Seen
seen_of heard = record { basis = is_some heard.basis; union_with = is_some heard.union_with; require = is_some heard.require; format = is_some heard.format }

-- the script, where no line is left
abbrev pub script_said : Heard → Result Script Fault
script_said heard = script_with (option_to_list heard.basis) heard.union_with heard.require heard.format heard.queries
