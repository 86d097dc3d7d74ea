-- The rules look at the prices and the net positions of a day alone.
use Rattle.std.proofs.Common.{◌≡◌, ℕ, ◌-◌, List, [], ◌∷◌, map, length, get_or, take, drop, ℤ, pos, ◌+ℤ◌, ◌*ℤ◌, nat_abs, sym, refl, ap, ◌∙◌, subst, arith}
use Rattle.std.specs.List.{between}
use Rattle.std.proofs.lemmas.List.{ext_get_or, get_or-map, length-map, take-map, drop-map}
use Rattle.market.specs.declared.records.Order.{Order}
use Rattle.market.specs.declared.records.Block.{Block}
use Rattle.market.specs.declared.records.Interval.{Interval}
use Rattle.market.specs.Blank.{fresh}
use Rattle.verdict.specs.Rules.{price_at, price_sum, block_prices, span}
use Rattle.verdict.specs.Passes.{EmptyIfWorse, FullIfBetter, OrderMeetsPrice, Pays, BlockMeets, Passes}
use Rattle.verdict.proofs.Eachs.{each_map}

-- the prices of records, added up
summed : List ℤ → ℤ
summed [] = pos 0
summed (x ∷ xs) = x +ℤ summed xs

sum_is : (xs : List Interval) → price_sum xs ≡ summed (map (λ (x : Interval). x.price) xs)
unfolding summed
sum_is [] = refl
sum_is (x ∷ xs) = ap (λ (z : ℤ). x.price +ℤ z) (sum_is xs)

module _ (a b : List Interval) (len : length b ≡ length a)
    (prices : (k : ℕ) → (get_or b k fresh).price ≡ (get_or a k fresh).price) (nets : (k : ℕ) → (get_or b k fresh).net ≡ (get_or a k fresh).net) where
  abbrev price : Interval → ℤ
  price x = x.price

  all_prices : map price b ≡ map price a
  all_prices =
      ext_get_or (pos 0) (map price b) (map price a) (length-map b price ∙ len ∙ sym (length-map a price))
      (λ k lt. let n = length-map b price in get_or-map price b k fresh (pos 0) (omega arith) ∙ prices k ∙ sym (get_or-map price a k fresh (pos 0) (omega arith)))

  same_sum : (i j : ℕ) → price_sum (between i j b) ≡ price_sum (between i j a)
  same_sum i j =
      sum_is (between i j b)
      ∙ ap summed (sym (take-map price (j - i) (drop i b)) ∙ ap (take (j - i)) (sym (drop-map price i b) ∙ ap (drop i) all_prices ∙ drop-map price i a) ∙ take-map price (j - i) (drop i a))
      ∙ sym (sum_is (between i j a))

  order_keeps : (o : Order) (f : ℕ) → OrderMeetsPrice a o f → OrderMeetsPrice b o f
  order_keeps o f m =
      let e : price_at b o.interval ≡ price_at a o.interval = prices (nat_abs o.interval - 1) in
      record {
        empty = subst (λ (x : ℤ). EmptyIfWorse o.side o.limit x f) (sym e) m.empty;
        full = subst (λ (x : ℤ). FullIfBetter o.side o.limit x o.quantity f) (sym e) m.full;
      }

  block_keeps : (k : Block) (f : ℕ) → BlockMeets a k f → BlockMeets b k f
  block_keeps k f m =
      let e : block_prices b k ≡ block_prices a k = same_sum (nat_abs k.first - 1) (nat_abs k.last) in
      record { least = m.least; price = λ h. subst (λ (x : ℤ). Pays k.side (k.limit *ℤ span k) x) (sym e) (m.price h) }

  pub passes_still : (os : List Order) (fs : List ℕ) (bs : List Block) (gs : List ℕ) → Passes a os fs bs gs → Passes b os fs bs gs
  passes_still os fs bs gs m = record {
    within = m.within;
    orders = each_map (OrderMeetsPrice a) (OrderMeetsPrice b) order_keeps os fs m.orders;
    blocks = each_map (BlockMeets a) (BlockMeets b) block_keeps bs gs m.blocks;
    balanced = λ i lt. m.balanced i (omega arith) ∙ sym (nets i);
  }
