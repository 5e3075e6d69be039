-- The index of a call counts its caller's earlier calls that used theirs up.
use Rattle.std.proofs.Common.{◌≡◌, ◌≢◌, ℕ, ◌+◌, cond, ⊎_elim, List, [], ◌∷◌, ◌++◌, length, set, sym, ap, subst, arith}
use Rattle.std.proofs.lemmas.Bool.{eq-eqb, ne_eqb}
use Rattle.std.proofs.lemmas.List.{take_at, take-append-le}
use mathlib.Core.Option.{some}
use lib.ListN.{get_elem?}
use Rattle.index_law.proofs.Parties.{at_set}
use Rattle.index_core.specs.declared.party.PartyState.{PartyState}
use Rattle.index_core.specs.Indexes.{Index}
use Rattle.index_core.specs.Schedules.{AnsweredCall, uses_index, used_by, indexes_used, IsNextIndex, IndexesCount, StatesCount}
use Rattle.index_core.proofs.Lists.{within, at_end}

used_push : (caller : ℕ) (calls : List AnsweredCall) (c : AnsweredCall) → indexes_used caller (calls ++ c ∷ []) ≡ indexes_used caller calls + used_by caller c
used_push caller [] c = omega arith
used_push caller (d ∷ calls) c = let rest = used_push caller calls c in omega arith

-- one more call leaves another caller's index,
pub next_other : (first : Index) (calls : List AnsweredCall) (c : AnsweredCall) (i index : ℕ) → c.call.caller ≢ i → IsNextIndex first calls i index → IsNextIndex first (calls ++ c ∷ []) i index
next_other first calls c i index other is =
    let none : used_by i c ≡ 0 = ap (λ b. cond b (uses_index c.whole c.answer) 0) (ne_eqb c.call.caller i other) in
    let more = used_push i calls c in
    let now = is.is in
    record { state = is.state; there = is.there; is = omega arith }

-- and raises its own caller's where it used its index up
pub next_own : (first : Index) (calls : List AnsweredCall) (c : AnsweredCall) (i index next : ℕ) → c.call.caller ≡ i → next ≡ index + uses_index c.whole c.answer → IsNextIndex first calls i index
    → IsNextIndex first (calls ++ c ∷ []) i next
next_own first calls c i index next same up is =
    let one : used_by i c ≡ uses_index c.whole c.answer = ap (λ b. cond b (uses_index c.whole c.answer) 0) (eq-eqb c.call.caller i same) in
    let more = used_push i calls c in
    let now = is.is in
    record { state = is.state; there = is.there; is = omega arith }

-- the call that is answered last has its index from all before it
pub indexes_push : (first : Index) (calls : List AnsweredCall) (c : AnsweredCall) → IndexesCount first calls → IsNextIndex first calls c.call.caller c.call.index → IndexesCount first (calls ++ c ∷ [])
indexes_push first calls c count own j d at =
    ⊎_elim
    (λ (old : get_elem? calls j ≡ some d).
    let inside = within calls j d old in
    subst (λ (before : List AnsweredCall). IsNextIndex first before d.call.caller d.call.index) (sym (take-append-le j calls (c ∷ []) (omega arith))) (count j d old))
    (λ (last : (j ≡ length calls) × (c ≡ d)).
    subst (λ (before : List AnsweredCall). IsNextIndex first before d.call.caller d.call.index) (sym (take_at calls (c ∷ []) j (sym last.0)))
    (subst (λ (e : AnsweredCall). IsNextIndex first calls e.call.caller e.call.index) last.1 own))
    (at_end calls c d j at)

-- where one party's state is another
pub states_set : (first : Index) (calls : List AnsweredCall) (states : List PartyState) (i : ℕ) (now : PartyState)
    → ((p : ℕ) (state : PartyState) → p ≢ i → get_elem? states p ≡ some state → IsNextIndex first calls p state.index) → IsNextIndex first calls i now.index → StatesCount first calls (set states i now)
states_set first calls states i now others own p state at =
    ⊎_elim
    (λ (mine : (p ≡ i) × (now ≡ state)). subst (λ (q : ℕ × PartyState). IsNextIndex first calls q.0 q.1.index) (λ k. (sym mine.0 k, mine.1 k)) own)
    (λ (other : (p ≢ i) × (get_elem? states p ≡ some state)). others p state other.0 other.1)
    (at_set states i p now state at)
