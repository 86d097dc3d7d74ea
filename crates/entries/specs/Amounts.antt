-- The amounts of an interval, and its postings.
use Rattle.std.specs.Prelude.{ℕ, suc, ◌+◌, ◌-◌, cond, List, [], ◌∷◌, ◌++◌, map, reverse, length, ℤ, pos, ◌*ℤ◌, neg_ℤ, Some, None, Option, ◌==◌, nat_lt, slice_index, slice_index_or, unsigned_abs}
use Rattle.std.specs.Option.{option_map}
use Rattle.market.specs.declared.records.Order.{Order}
use Rattle.market.specs.declared.records.Block.{Block}
use Rattle.market.specs.Blank.{no_order, no_block}
use Rattle.market.specs.Kinds.{Kind, orders, blocks}
use Rattle.market.specs.Signed.{signed}
use Rattle.posting.specs.declared.posting.Posting.{Posting}
use Rattle.posting.specs.Postings.{listed}
use Rattle.entries.specs.declared.book.Party.{Party}
use Rattle.entries.specs.declared.terms.Terms.{Terms}

-- what an interval is settled by: its price, R, and its quarters of an hour
pub record Conditions : Type 0 where
  pub price : ℤ
  pub rounded : ℤ
  pub quarters : ℕ

-- what terms say
abbrev pub conditions : Terms → Conditions
conditions t = record { price = t.price; rounded = t.rounded; quarters = t.quarters }

-- an amount in grains: price × steps × quarters
abbrev pub worth : Conditions → ℤ → ℤ
worth t steps = (t.price *ℤ steps) *ℤ pos t.quarters

-- whose steps an entry's are
abbrev pub party : {X : Type 0} → Kind X → X → Party
party kind x = record { side = kind.side x; account = unsigned_abs (kind.account x) }

-- whose steps those of the entry at a place are, from 0: the orders, then the blocks
abbrev pub party_at : List Order → List Block → ℕ → Party
party_at os bs k = cond (nat_lt k (length os)) (party orders (slice_index_or os k no_order)) (party blocks (slice_index_or bs (k - length os) no_block))

-- the posting of an entry that is settled at n steps: plus for a sell, minus for a buy, none for 0 steps
abbrev pub posting_of : Conditions → Party → ℕ → Option Posting
posting_of t p n = cond (n == 0) None (Some (record { account = p.account; amount = worth t (signed p.side n) }))

-- minus R's amount, to account 0
abbrev pub exchange : Conditions → Posting
exchange t = record { account = 0; amount = neg_ℤ (worth t t.rounded) }

-- what settling posts for the entry at a place, and past the entries for the exchange
abbrev pub settle_slot : List Order → List Block → List ℕ → Conditions → ℕ → Option Posting
settle_slot os bs ns t k = cond (nat_lt k (length os + length bs)) (posting_of t (party_at os bs k) (slice_index ns k)) (Some (exchange t))

-- the postings of an interval whose entries are settled at the numbers ns: by entry, last the exchange
unfoldable pub settle_postings : List Order → List Block → List ℕ → Conditions → List Posting
settle_postings os bs ns t = listed (settle_slot os bs ns t) (suc (length os + length bs))

-- minus the worth of a remainder, to account 1
abbrev pub booking : Conditions → ℤ → Posting
booking t steps = record { account = 1; amount = neg_ℤ (worth t steps) }

-- the posting that takes another back
abbrev pub opposite : Posting → Posting
opposite p = record { account = p.account; amount = neg_ℤ p.amount }

-- at a place, from 0: the opposite of a posting p, then of what stands at n places, last first
abbrev pub void_slot : (ℕ → Option Posting) → ℕ → Posting → ℕ → Option Posting
void_slot f n p k = cond (k == 0) (Some (opposite p)) (option_map opposite (f (n - k)))

-- what voiding posts: the opposite of settling by the numbers ns and of booking the remainder, in opposite order
unfoldable pub void_postings : List Order → List Block → List ℕ → Conditions → ℤ → List Posting
void_postings os bs ns t steps = reverse (map opposite (settle_postings os bs ns t ++ booking t steps ∷ []))
