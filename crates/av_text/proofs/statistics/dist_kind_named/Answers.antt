-- The kind of distribution is the first one whose name is the token.
use Rattle.std.proofs.Common.{rules, tests, sym, ◌∙◌}
use Rattle.std.proofs.lemmas.Iterator.{YieldsList-from_slice}
use Rattle.std.proofs.lemmas.Iterator.Adapters.{option_map_id}
use Rattle.std.proofs.lemmas.Iterator.Consumers.{YieldsList-from_copied}
use Rattle.std.proofs.lemmas.Iterator.Search.{find_from_yields_List}
use Rattle.av_perm.specs.Lists.{same}
use Rattle.av_text.specs.Queries.{dist_kind_name, dist_kinds, dist_kind_named}
use Rattle.av_text.proofs.statistics.dist_kind_named.Goals as goal

pub returns : goal.returns
unfolding dist_kind_named
returns c =
    sym (option_map_id c.find.result)
    ∙ find_from_yields_List (λ k. same (dist_kind_name k) c.args.token.now) _ _ c.find.result c.find.ensures.ran (YieldsList-from_copied (YieldsList-from_slice dist_kinds cc)) (λ x b q k. search (rules, tests))
