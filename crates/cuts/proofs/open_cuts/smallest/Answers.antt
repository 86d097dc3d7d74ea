use Rattle.std.proofs.Common.{ap, ◌∙◌, sym, unwrap_or}
use Rattle.std.proofs.lemmas.Iterator.{YieldsList-from_slice}
use Rattle.std.proofs.lemmas.Iterator.Consumers.{min_from_yields_List, YieldsList-at, YieldsList-from_copied}
use Rattle.std.proofs.lemmas.Iterator.Adapters.{option_map_id}
use Rattle.cuts.proofs.Smallest.{smallest_is}
use Rattle.cuts.proofs.open_cuts.smallest.Goals as goal

pub returns : goal.returns
returns c =
    let qs = c.args.held.now in
    let m = min_from_yields_List c.copied.result c.min.result c.min.ensures.ran (YieldsList-from_copied (YieldsList-at c.copied.ensures.source (YieldsList-from_slice qs cc))) in
    c.unwrap_or.ensures ∙ ap (λ o. unwrap_or o 0) (sym (option_map_id _) ∙ m) ∙ smallest_is qs
