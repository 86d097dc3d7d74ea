-- What a binary search by number finds among ascending accounts.
use Rattle.std.proofs.Common.{◌≡◌, ℕ, ◌<◌, ◌≤◌, List, length, get_or, Result, Ok, Err, sym, ap, ⊎_elim, arith, MatchOption}
use Rattle.std.specs.List.Sorted.{IsSearchInRange, IsBinarySearchResult, IsNonDecreasingBy}
use Rattle.std.specs.Ordering.{nat_cmp, ordering_index}
use Rattle.std.specs.Result.{result_ok}
use Rattle.std.proofs.lemmas.Bool.{cases_lt}
use Rattle.std.proofs.lemmas.Bool.Decides.{nat_tests}
use Rattle.std.proofs.lemmas.Cmp.{ranked}
use Rattle.std.proofs.lemmas.List.Sorted.{IsNonDecreasingBy-from_default}
use Rattle.ledger.specs.declared.account.Account.{Account}
use Rattle.ledger.specs.Model.{Lawful, blank}
use Rattle.ledger.proofs.Places.{ascends}
use Rattle.ledgers.specs.Table.{Absent, FirstAt}

module _ (m : List Account) (f : Lawful m) (n : ℕ) where
  -- the comparisons with n rise along the accounts, as a binary search asks
  comparisons_rise : IsNonDecreasingBy (λ a. ordering_index (nat_cmp a.number n)) m
  comparisons_rise = IsNonDecreasingBy-from_default (λ a. ordering_index (nat_cmp a.number n)) m blank (λ i j le inside.
      let up : (get_or m i blank).number ≤ (get_or m j blank).number = ⊎_elim (λ lt. let s = ascends 0 m i j blank f lt inside in omega arith) (λ ge. let same : i ≡ j = omega arith in omega (arith, ap (λ k. (get_or m k blank).number) same)) (cases_lt i j) in
      grind (arith, nat_tests))

  pub searched : (r : Result ℕ ℕ) → IsSearchInRange r (length m) → IsBinarySearchResult (λ a. nat_cmp a.number n) m r → MatchOption (result_ok r) (Absent m n) (λ i. FirstAt m n i)
  searched (Ok at) inside equal =
      let here : (get_or m at blank).number ≡ n = ranked _ n _ (sym (equal blank)) in
      record { inside = inside; here = here; before = λ k lt same. let s = ascends 0 m k at blank f lt inside in omega arith }
  searched (Err at) inside parted = λ k within same.
      ⊎_elim
      (λ lt. let less : (get_or m k blank).number < n = ranked _ n _ (sym ((parted comparisons_rise).0 k blank (omega arith) lt)) in omega arith)
      (λ ge. let more : n < (get_or m k blank).number = ranked _ n _ (sym ((parted comparisons_rise).1 k blank ge within)) in omega arith)
      (cases_lt k at)
