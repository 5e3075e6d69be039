-- Which callers a round has, and how many writes they can have placed once a limit is reached.
use Rattle.std.specs.Prelude.{◌≡◌, ◌≢◌, ℕ, ◌+◌, ◌<◌, ◌≤◌, nat_eq, List, Contains, length, slice_get, Some}
use Rattle.std.specs.Set.{distinct_count}
use Rattle.cat_history.specs.declared.op.Write.{Write}

-- How many different callers stand in the list.
abbrev pub callers_among : List ℕ → ℕ
callers_among callers = distinct_count nat_eq callers

-- Each place of a write is below the limit plus the number of these callers, minus one.
abbrev pub PlacesKeepLimit : ℕ → List ℕ → List Write → Type 0
PlacesKeepLimit limit callers writes = (place : ℕ) → place < length writes → place + 1 < limit + callers_among callers

-- Each write was begun while the limit was not yet reached, and one caller's writes follow one another: so from the
-- place before the limit on, no caller has two.
abbrev pub LateWritesAreFew : Type 0
LateWritesAreFew = (limit : ℕ) (callers : List ℕ) (writes : List Write) → (0 < length writes → 0 < limit) →
    ((place : ℕ) (write : Write) → slice_get writes place ≡ Some write → Contains callers write.caller) →
    ((p q : ℕ) (v w : Write) → slice_get writes p ≡ Some v → slice_get writes q ≡ Some w → p < q → limit ≤ p + 1 →
    v.caller ≢ w.caller) →
    PlacesKeepLimit limit callers writes
