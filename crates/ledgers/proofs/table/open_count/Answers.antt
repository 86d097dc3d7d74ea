use Rattle.std.proofs.Common.{◌≡◌, length, take, get_or, true, ap, ◌∙◌, arith, rules}
use Rattle.ledger.specs.Model.{blank}
use Rattle.ledgers.specs.Table.{lawful_from, run, open_records}
use Rattle.ledgers.proofs.Tables.{few_is, count_more}
use Rattle.ledgers.proofs.table.open_count.Goals as goal

pub loop-open-init : goal.loop-open-init
loop-open-init c =
    let rs = c.args.records.now in
    let e : length (run 0 (take c.min.result rs)) ≡ open_records rs = ap (λ n. length (run 0 (take n rs))) c.min.ensures ∙ ap (λ l. length (run 0 l)) (few_is rs) in
    omega arith

pub loop-open-preserved : goal.loop-open-preserved
loop-open-preserved c =
    let rs = c.args.records.now in
    let few = take c.min.result rs in
    let i = c.loop-open.«open» in
    let e : lawful_from c.loop-open.least (get_or few i blank) ≡ true = search rules in
    let n = c.from-least.ensures in
    rw n (count_more few c.loop-open.least i (open_records rs) blank c.loop-open.invariant (omega arith) e)
