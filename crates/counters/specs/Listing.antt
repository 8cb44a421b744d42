-- The transactions of document 01's listing.
use Rattle.std.specs.Prelude.{ℕ, List, [], ◌∷◌, length, slice_index_or}
use Rattle.packed.specs.Decode.{row}
use Rattle.packed.specs.declared.Action.{Action}
use Rattle.packed.specs.declared.Action.TheVariants.{Nothing, Set, Add, Take, Copy}
use Rattle.packed.specs.declared.Transaction.{Transaction}
use Rattle.counters.specs.Storing.{in_four}

-- a transaction from its reads, its writes and its actions
abbrev pub transaction : List ℕ → List ℕ → List Action → Transaction
transaction reads writes actions =
    record {
      readcount = length reads;
      writecount = length writes;
      actioncount = length actions;
      reads = in_four reads;
      writes = in_four writes;
      actions =
          row (slice_index_or actions 0 Nothing)
          ∷ row (slice_index_or actions 1 Nothing)
          ∷ row (slice_index_or actions 2 Nothing)
          ∷ row (slice_index_or actions 3 Nothing)
          ∷ [];
    }

-- "Transactions: reads 0 writes 0, add 0 by 5; reads 0 writes 1, copy 1 from 0; reads 1 writes 1 and 2, take 100 from
-- 1; writes 0, set 0 to 7."
unfoldable pub listing : List Transaction
listing =
    transaction (0 ∷ []) (0 ∷ []) (Add 0 5 ∷ [])
    ∷ transaction (0 ∷ []) (1 ∷ []) (Copy 1 0 ∷ [])
    ∷ transaction (1 ∷ []) (1 ∷ 2 ∷ []) (Take 1 100 ∷ [])
    ∷ transaction [] (0 ∷ []) (Set 0 7 ∷ [])
    ∷ []
