use Rattle.std.proofs.Common.{◌≡◌, ◌+◌, ◌-◌, ◌++◌, length, take, drop, nat_abs, ap, ◌∙◌, ap₂, arith, w64, to_z, of_z}
use Rattle.std.proofs.lemmas.List.{length-take, length-drop}
use Rattle.std.proofs.lemmas.Int.{to_z-of_z}
use Rattle.cuts.specs.Stages.{Cut}
use Rattle.cuts.specs.Settled.{orders_cut}
use Rattle.cuts.proofs.Parts.{both_written, second_kept}
use Rattle.cuts.proofs.Cutting.{orders_cut_is, blocks_cut_is}
use Rattle.cuts.proofs.settled.Rounding.cut.Goals as goal

pub returns-clause-numbers : goal.returns-clause-numbers
returns-clause-numbers c =
    let s = c.args.self.now in
    let os = s.book.orders.now in
    let fs = s.fills.orders.now in
    let bs = s.book.blocks.now in
    let gs = s.fills.blocks.now in
    let ns = c.args.numbers.now in
    let i = s.interval in
    let a = length os in
    let b = length bs in
    let gap = c.args.gap in
    let gap' = to_z w64 (of_z w64 gap) in
    let same : gap' ≡ gap = to_z-of_z w64 gap c.ranges.gap in
    let size : c.unsigned_abs.result ≡ nat_abs gap = c.unsigned_abs.ensures.value ∙ ap nat_abs same in
    let ys = c.cut_kind-left.new.numbers in
    let zs = c.cut_kind.new.numbers in
    let x = orders_cut_is os c.orders.result.entries.now fs c.orders.result.fills.now i gap gap' (take a ns) c.unsigned_abs.result
    c.orders.ensures.entries c.orders.ensures.fills same c.requires.orders size in
    let ly : length ys ≡ a = omega (arith, c.cut_kind-left.auto.numbers, length-take a ns) in
    let at = take (a + b - a) (drop a (ys ++ drop a ns)) in
    let kept : at ≡ take b (drop a ns) = second_kept a b ns ys ly in
    let left : c.cut_kind-left.result ≡ (orders_cut os fs i gap).left = c.cut_kind-left.ensures.left ∙ ap (λ (z : Cut). z.left) x in
    let y = blocks_cut_is bs c.blocks-2.result.entries.now gs c.blocks-2.result.fills.now i gap gap' at c.cut_kind-left.result (orders_cut os fs i gap).left
    c.blocks-2.ensures.entries c.blocks-2.ensures.fills same (kept ∙ c.requires.blocks) left in
    let lz : length zs ≡ b = omega (arith, c.cut_kind.auto.numbers, ap length kept, length-take b (drop a ns), length-drop a ns) in
    both_written a b ns ys zs ly lz
    ∙ ap₂ (λ u v. u ++ (v ++ drop (a + b) ns)) (c.cut_kind-left.ensures.numbers ∙ ap (λ (z : Cut). z.numbers) x) (c.cut_kind.ensures.numbers ∙ ap (λ (z : Cut). z.numbers) y)
