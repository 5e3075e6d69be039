-- Which lone puts find no room, in the words of the shape.
use Rattle.std.proofs.Common.{◌≡◌, ◌≢◌, ℕ, zero, suc, ◌+◌, ◌<◌, ◌==◌, ⊎_elim, inl, inr, cond, refl, sym, ap, ◌∙◌}
use Rattle.std.proofs.Common.{subst, arith, zero-add}
use Rattle.std.proofs.lemmas.Bool.{cases_eq, eq-eqb, ne_eqb}
use Rattle.shapes.specs.Anchors.{IsFullPut}
use Rattle.pm_words.specs.Codes.{free_status, gone_status}
use Rattle.index_law.specs.Anchors.{anchors_in, gone_nodes, members_most}
use Rattle.index_law.specs.Facts.{Facts, IsListed}
use Rattle.index_law.specs.Worlds.{facts}
use Rattle.index_law.proofs.Sizes.{no_free_is_each, nodes_are_counted}
use Rattle.lone_hops_law.specs.lone_call_law.proofs.Locks.{worn_has_none}
use Rattle.lone_hops_law.specs.lone_call_law.proofs.Shapes.{full_is_no_room, no_room_is_full}
use Rattle.index_core.specs.Indexes.{Index, map_of_index, world}
use Rattle.index_core.specs.Lone.{ComesFree, LacksNode, locks_left}
use Rattle.index_core.specs.Fulls.{HasLowStamps, NoRoomIsFullPut, NoRoomListsEach}
use Rattle.index_core.proofs.Alone.{target_has}
use Rattle.index_core.proofs.Quiet.{quiet_parties, rests}

-- where a lock is left of each node, one whose lock can't be taken doesn't come free
none_comes : (s : Index) → 0 < locks_left s → LacksNode s → (k : ℕ) → k < s.layout.nodes → ComesFree s k → ⊥
none_comes s left lacks k below comes =
    let none = worn_has_none s.generation (facts (world s)).version k s.layout.nodes below (lacks k below comes) in
    omega arith

none_free : (s : Index) → 0 < locks_left s → LacksNode s → (k : ℕ) → k < s.layout.nodes → (facts (world s)).status k ≢ free_status
none_free s left lacks k below free = none_comes s left lacks k below (inl free)

-- a node that is GONE is counted
some_gone : (n : ℕ) (f : Facts) (k : ℕ) → k < n → f.status k ≡ gone_status → 0 < gone_nodes n f
some_gone zero f k below is = absurd (omega arith)
some_gone (suc n) f k below is = ⊎_elim
    (λ (same : k ≡ n). let here : cond (f.status n == gone_status) 1 0 + gone_nodes n f ≡ 1 + gone_nodes n f =
    ap (λ b. cond b 1 0 + gone_nodes n f) (eq-eqb (f.status n) gone_status (ap f.status (sym same) ∙ is)) in omega arith)
    (λ (other : k ≢ n). let before = some_gone n f k (omega arith) is in omega arith)
    (cases_eq k n)

none_gone : (n : ℕ) (f : Facts) → ((k : ℕ) → k < n → f.status k ≢ gone_status) → gone_nodes n f ≡ 0
none_gone zero f none = refl
none_gone (suc n) f none =
    ap (λ b. cond b 1 0 + gone_nodes n f) (ne_eqb (f.status n) gone_status (none n (omega arith))) ∙ zero-add (gone_nodes n f) ∙ none_gone n f (λ k below. none k (omega arith))

-- and with no stamp above 1 none is GONE, so each node may be a member
most_are_all : (s : Index) → 0 < locks_left s → HasLowStamps s → LacksNode s → members_most (world s) ≡ s.layout.nodes
most_are_all s left low lacks =
    let none = none_gone s.layout.nodes (facts (world s)) (λ k below gone. none_comes s left lacks k below (inr (gone, low k below))) in
    omega arith

pub no_room_is_full_put : NoRoomIsFullPut
no_room_is_full_put s name value limit is quiet named left low =
    let rest = rests s is quiet.calls in
    let same = target_has s rest name in
    let counts = nodes_are_counted (world s) is.lawful in (
      (λ none. subst (λ (most : ℕ). IsFullPut s.layout.slots most (map_of_index s) (anchors_in (world s)) name) (most_are_all s left low none.1)
          (full_is_no_room (world s) name value rest named none.0.0 (same ∙ none.0.1) (none_free s left none.1))),
      (λ full.
          let few = counts.few in
          let whole = full.no_node in
          let none : gone_nodes s.layout.nodes (facts (world s)) ≡ 0 = omega arith in
          let most : s.layout.nodes ≡ members_most (world s) = omega arith in
          let was = no_room_is_full (world s) name value rest named (subst (λ (n : ℕ). IsFullPut s.layout.slots n (map_of_index s) (anchors_in (world s)) name) most full) in (
            (was.0, sym same ∙ was.1),
            (λ k below comes. ⊎_elim
                (λ (free : (facts (world s)).status k ≡ free_status). absurd (was.2 k below free))
                (λ gone. absurd (let some = some_gone s.layout.nodes (facts (world s)) k below gone.0 in omega arith))
                comes),
          )),
    )

pub no_room_lists_each : NoRoomListsEach
no_room_lists_each s name value limit is quiet left low none k below = ⊎_elim
    (λ (listed : IsListed (facts (world s)) k). listed)
    (λ (gone : (facts (world s)).status k ≡ gone_status). absurd (none_comes s left none.1 k below (inr (gone, low k below))))
    (no_free_is_each (world s) is.lawful (quiet_parties s quiet) (none_free s left none.1) k below)
