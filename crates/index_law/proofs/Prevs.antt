-- Steps keep the prevs, and the order of the GONE nodes.
use Rattle.std.proofs.Common.{◌≡◌, ◌≢◌, ℕ, suc, ◌<◌, ◌^◌, ◌⊎◌, inl, inr, ⊎_elim, Bool, true, false, cond, List, [], ◌∷◌, ◌++◌, length, slice_index, set, refl, sym, ap, ◌∙◌, subst, arith}
use Rattle.std.specs.List.{AllByRecursion, IsDistinct, list_any}
use Rattle.std.proofs.lemmas.Map.Steps.{length-le_from_distinct_below}
use Rattle.std.proofs.Math.Dec.{eqb}
use Rattle.std.proofs.lemmas.List.{get_or-set_other}
use Rattle.pm_words.specs.Codes.{gone_status, live_status}
use Rattle.pm_words.specs.Rows as rows
use Rattle.std.specs.Prelude.{◌==◌, ◌||◌, nat_lt, slice_set, Option, Some, None, IfSome}
use Rattle.std.proofs.lemmas.Bool.{lt-ltb, ltb-true, eq-eqb, eqb-true, ne_eqb, cases_eq}
use Rattle.std.proofs.lemmas.List.{set-get_or}
use mathlib.Core.Option.{some, some-injective}
use lib.ListN.{get_elem?}
use Rattle.pm_words.specs.declared.layout.Layout.{Layout}
use Rattle.pm_words.specs.declared.action.Action.{Action}
use Rattle.pm_words.specs.declared.action.Action.TheVariants.{Store}
use Rattle.pm_words.specs.Locations.{Location, Volatile, Cached, Durable, Clock, Node, HasLocation, at, address_of, row_words, image_words, cached_address, durable_address}
use Rattle.pm_words.specs.Rows.{acted, got}
use Rattle.pm_words.proofs.Apart.{addresses_within, at-set_other, at-set_same}
use Rattle.pm_words.proofs.Kept.{outside_header, acted_row, action_address-drain}
use Rattle.data_node.specs.Spots.{Spot}
use Rattle.data_node.specs.Lists.{ListNode, anchor_in, IsMember, IsIn, IsChain, Rise}
use Rattle.call_stages.specs.declared.once.Once.{Once}
use Rattle.call_stages.specs.declared.once.Placed.{Placed}
use Rattle.call_stages.specs.Stages.{Gone, Stage, Idle, Saw, Wears, Reads, Holds, Eyes, Splits, Leaves, Meets, Joins}
use Rattle.call_stages.specs.Kinds.{Step, Split, Merge, clock_address, word_address, status_address, prev_address}
use Rattle.call_stages.specs.Kinds as kinds
use Rattle.index_law.specs.Facts.{Facts, IsListed}
use Rattle.index_law.specs.Worlds.{Party, World, facts, moved_on, started, stepped, evicted_world}
use Rattle.index_law.specs.Lawful.{Lawful, IsList, Sure, SureJoins}
use Rattle.call_stages.specs.Stages.{HoldsNode}
use Rattle.index_law.specs.Laws.{Allowed, loads_clock, loads_word, loads_status, loads_prev, exchanges, exchanges_read, stores_word, stores_status, drains_word, adds, claims_node, frees_fresh, frees_left, frees_met, frees_right, frees}
use Rattle.call_stages.specs.Prevs.{IsSwitch, IsJoin}
use Rattle.call_stages.specs.Orders.{IsOneOf, Ordered, StandOnce, AreInOrder}
use Rattle.index_law.specs.Prevs.{prev_in, Traced, IsOwed, IsGone, IsTraced, StepTraces, PrevTraces, EvictTraces, StartTraces, ComesOut, GoneComeOut, PrevsAreNodes, RestIsTraced, IdleFollow}
use Rattle.call_stages.specs.Prevs.{Debt, no_debt, Leads, IsRetire, Deals, keeps, forgets, ends, switches, joins, Prevs, names, pays, renews}
use Rattle.index_law.proofs.Bystanders.{IsSteady}
use Rattle.index_law.proofs.Law.{step_law}
use Rattle.data_node.proofs.ListLemmas.{not_behind, rise_at}
use Rattle.pm_words.specs.Offsets.{version_offset, next_offset, status_offset, prev_offset}
use Rattle.index_law.proofs.Locks.{steady_else, steadies}
use Rattle.index_law.proofs.Moves.{fact_after, split_after, merge_after, each_after, facts_step, gives}
use Rattle.index_law.proofs.Noting.{beside_law}
use Rattle.index_law.proofs.Own.{allow_law, sure_within, mine}
use Rattle.index_law.proofs.Parties.{at_set, set_here, set_else}
use Rattle.index_law.proofs.Rows.{facts-elsewhere, if-alike}
use Rattle.index_law.proofs.Shapes.{step_shapes}
use Rattle.index_law.proofs.Starts.{listed_within, start_law, rest_law}
use Rattle.index_law.proofs.Evictions.{evict_facts, evict_law}
use Rattle.index_law.proofs.Switch.{rise_from, leads_on}
use Rattle.index_law.proofs.Twins.{nearer, store_closer}

-- rows with the same prev words have the same prevs
pub prev_in-alike : (l : Layout) (words words' : List ℕ) (n : ℕ) → (n < l.nodes → at l words' (Volatile n prev_offset) ≡ at l words (Volatile n prev_offset)) → prev_in l words' n ≡ prev_in l words n
unfolding prev_in
prev_in-alike l words words' n same = if-alike (nat_lt n l.nodes) (at l words' (Volatile n prev_offset)) (at l words (Volatile n prev_offset)) (λ here. same (ltb-true n l.nodes here))

-- prev words are elsewhere than what a step on nodes stores into
pub store_prev : (l : Layout) (words : List ℕ) (p : Location) (y : ℕ) → HasLocation l p → ((n : ℕ) → Volatile n prev_offset ≢ p) → (n : ℕ) → prev_in l (slice_set words (address_of l p) y) n ≡ prev_in l words n
store_prev l words p y has other n = prev_in-alike l words (slice_set words (address_of l p) y) n (λ here. at-set_other l words p (Volatile n prev_offset) y has (here, omega arith) (other n))

pub nodes_leave_prevs : (l : Layout) (words : List ℕ) (s : Stage) (a : Action) (n : ℕ) → Allowed l s a → prev_in l (acted l words a) n ≡ prev_in l words n
nodes_leave_prevs l words s a n loads_clock = ap (λ v. prev_in l v n) (set-get_or words (clock_address l) 0)
nodes_leave_prevs l words s a n (loads_word {n = m} {offset = o} has) = ap (λ v. prev_in l v n) (set-get_or words (word_address l m o) 0)
nodes_leave_prevs l words s a n (loads_status {n = m} here) = ap (λ v. prev_in l v n) (set-get_or words (status_address l m) 0)
nodes_leave_prevs l words s a n (loads_prev {n = m} here) = ap (λ v. prev_in l v n) (set-get_or words (prev_address l m) 0)
nodes_leave_prevs l words s a n (exchanges {n = m} here) = store_prev l words (Cached (Node m version_offset)) _ (here, omega arith) (λ k e. cc) n
nodes_leave_prevs l words s a n (exchanges_read {n = m} here small) = store_prev l words (Cached (Node m version_offset)) _ (here, omega arith) (λ k e. cc) n
nodes_leave_prevs l words s a n (stores_word {n = m} {y = y} {offset = o} holds has positive small) = store_prev l words (Cached (Node m o)) y has (λ k e. cc) n
nodes_leave_prevs l words s a n (stores_status {n = m} {y = y} holds here small) = store_prev l words (Volatile m status_offset) y (here, omega arith) (λ k e. cc) n
nodes_leave_prevs l words s a n (drains_word {n = m} {y = y} {offset = o} holds has small) =
    ap (λ (place : ℕ). prev_in l (slice_set words place y) n) (action_address-drain l (Node m o) y) ∙ store_prev l words (Durable (Node m o)) y has (λ k e. cc) n
nodes_leave_prevs l words s a n adds = store_prev l words Clock _ tt (λ k e. cc) n
nodes_leave_prevs l words s a n (claims_node {m = m} here) = store_prev l words (Cached (Node m version_offset)) _ (here, omega arith) (λ k e. cc) n
nodes_leave_prevs l words s a n (frees_fresh {fresh = fresh} here next) = store_prev l words (Cached (Node fresh.node version_offset)) _ (here, omega arith) (λ k e. cc) n
nodes_leave_prevs l words s a n (frees_left {left = left} here next) = store_prev l words (Cached (Node left.node version_offset)) _ (here, omega arith) (λ k e. cc) n
nodes_leave_prevs l words s a n (frees_met {right = right} here next) = store_prev l words (Cached (Node right.node version_offset)) _ (here, omega arith) (λ k e. cc) n
nodes_leave_prevs l words s a n (frees_right {right = right} here next) = store_prev l words (Cached (Node right.node version_offset)) _ (here, omega arith) (λ k e. cc) n
nodes_leave_prevs l words s a n (frees {n = m} here next) = store_prev l words (Cached (Node m version_offset)) _ (here, omega arith) (λ k e. cc) n

-- two chains over one list lead on alike
pub chain_next : (now now' : ℕ → Spot) (here : ℕ) (list : List ListNode) → IsChain now here list → IsChain now' here list → (n : ℕ) → (n ≡ here) ⊎ IsMember list n → now' n next_offset ≡ now n next_offset
chain_next now now' here [] chain chain' n (inl e) = ap (λ k. now' k next_offset) e ∙ chain' ∙ sym (ap (λ k. now k next_offset) e ∙ chain)
chain_next now now' here [] chain chain' n (inr among) = absurd among
chain_next now now' here (m ∷ behind) chain chain' n (inl e) = ap (λ k. now' k next_offset) e ∙ chain'.0 ∙ sym (ap (λ k. now k next_offset) e ∙ chain.0)
chain_next now now' here (m ∷ behind) chain chain' n (inr among) = chain_next now now' m.node behind chain.3 chain'.3 n among

-- two members that lead to one node are one
chain_closed_at : (now : ℕ → Spot) (here : ℕ) (list : List ListNode) → IsChain now here list → (n : ℕ) → (n ≡ here) ⊎ IsMember list n → now n next_offset ≢ 0 → IsMember list (now n next_offset)
chain_closed_at now here [] chain n (inl e) ne = absurd (ne (ap (λ k. now k next_offset) e ∙ chain))
chain_closed_at now here [] chain n (inr among) ne = absurd among
chain_closed_at now here (m ∷ behind) chain n (inl e) ne = inl (ap (λ k. now k next_offset) e ∙ chain.0)
chain_closed_at now here (m ∷ behind) chain n (inr among) ne = inr (chain_closed_at now m.node behind chain.3 n among ne)

chain_one : (now : ℕ → Spot) (here : ℕ) (list : List ListNode) → IsChain now here list → Rise (anchor_in (now here)) list → (n k : ℕ) → (n ≡ here) ⊎ IsMember list n → (k ≡ here) ⊎ IsMember list k
    → now n next_offset ≢ 0 → now n next_offset ≡ now k next_offset → n ≡ k
chain_one now here list chain rise n k (inl e) (inl d) ne same = e ∙ sym d
chain_one now here [] chain rise n k (inr among) in_list ne same = absurd among
chain_one now here [] chain rise n k (inl e) (inr among) ne same = absurd among
chain_one now here (m ∷ behind) chain rise n k (inl e) (inr among) ne same =
    let to : now n next_offset ≡ m.node = ap (λ z. now z next_offset) e ∙ chain.0 in
    let later : IsMember behind (now k next_offset) = chain_closed_at now m.node behind chain.3 k among (λ z. ne (same ∙ z)) in
    absurd (not_behind now m.node behind chain.3 (rise_at now m behind chain.2 rise.1) (subst (IsMember behind) (sym same ∙ to) later))
chain_one now here (m ∷ behind) chain rise n k (inr among) (inl d) ne same =
    let to : now k next_offset ≡ m.node = ap (λ z. now z next_offset) d ∙ chain.0 in
    let later : IsMember behind (now n next_offset) = chain_closed_at now m.node behind chain.3 n among ne in
    absurd (not_behind now m.node behind chain.3 (rise_at now m behind chain.2 rise.1) (subst (IsMember behind) (same ∙ to) later))
chain_one now here (m ∷ behind) chain rise n k (inr among) (inr among') ne same = chain_one now m.node behind chain.3 (rise_at now m behind chain.2 rise.1) n k among among' ne same

-- The order of the GONE nodes.
one_more : (order : List ℕ) (r n : ℕ) → IsOneOf order n → IsOneOf (order ++ r ∷ []) n
one_more [] r n is = absurd is
one_more (k ∷ later) r n (inl e) = inl e
one_more (k ∷ later) r n (inr is) = inr (one_more later r n is)

last_one : (order : List ℕ) (r : ℕ) → IsOneOf (order ++ r ∷ []) r
last_one [] r = inl refl
last_one (k ∷ later) r = inr (last_one later r)

-- the order without one
abbrev without : ℕ → List ℕ → List ℕ
without r [] = []
without r (k ∷ later) = cond (k == r) (without r later) (k ∷ without r later)

without_has : (r : ℕ) (order : List ℕ) (n : ℕ) → n ≢ r → IsOneOf order n → IsOneOf (without r order) n
without_has r [] n other is = absurd is
without_has r (k ∷ later) n other is = elim (k == r) as (λ b. (k == r) ≡ b → IsOneOf (cond b (without r later) (k ∷ without r later)) n) [
  | true ↦ λ same. ⊎_elim (λ e. absurd (other (e ∙ eqb-true k r same))) (λ more. without_has r later n other more) is
  | false ↦ λ _. ⊎_elim (λ e. inl e) (λ more. inr (without_has r later n other more)) is
] refl

without_was : (r : ℕ) (order : List ℕ) (n : ℕ) → IsOneOf (without r order) n → IsOneOf order n × (n ≢ r)
without_was r [] n is = absurd is
without_was r (k ∷ later) n is = elim (k == r) as (λ b. (k == r) ≡ b → IsOneOf (cond b (without r later) (k ∷ without r later)) n → ((n ≡ k) ⊎ IsOneOf later n) × (n ≢ r)) [
  | true ↦ λ _ there. let rest = without_was r later n there in (inr rest.0, rest.1)
  | false ↦ λ apart there. ⊎_elim
      (λ e. (inl e, λ d. absurd (let no : true ≡ false = sym (eq-eqb k r (sym e ∙ d)) ∙ apart in cc)))
      (λ more. let rest = without_was r later n more in (inr rest.0, rest.1))
      there
] refl is

without_all : (P : ℕ → Type 0) (r : ℕ) (order : List ℕ) → AllByRecursion P order → AllByRecursion P (without r order)
without_all P r [] all = tt
without_all P r (k ∷ later) all = elim (k == r) as (λ b. AllByRecursion P (cond b (without r later) (k ∷ without r later))) [
  | true ↦ without_all P r later all.1
  | false ↦ (all.0, without_all P r later all.1)
]

without_once : (r : ℕ) (order : List ℕ) → StandOnce order → StandOnce (without r order)
without_once r [] once = tt
without_once r (k ∷ later) once = elim (k == r) as (λ b. StandOnce (cond b (without r later) (k ∷ without r later))) [
  | true ↦ without_once r later once.1
  | false ↦ (λ is. once.0 (without_was r later k is).0, without_once r later once.1)
]

snoc_all : (P : ℕ → Type 0) (r : ℕ) (order : List ℕ) → P r → AllByRecursion P order → AllByRecursion P (order ++ r ∷ [])
snoc_all P r [] last all = (last, tt)
snoc_all P r (k ∷ later) last all = (all.0, snoc_all P r later last all.1)

snoc_was : (r : ℕ) (order : List ℕ) (n : ℕ) → IsOneOf (order ++ r ∷ []) n → IsOneOf order n ⊎ (n ≡ r)
snoc_was r [] n is = ⊎_elim (λ e. inr e) (λ none. absurd none) is
snoc_was r (k ∷ later) n is = ⊎_elim (λ e. inl (inl e)) (λ more. ⊎_elim (λ was. inl (inr was)) (λ e. inr e) (snoc_was r later n more)) is

snoc_once : (r : ℕ) (order : List ℕ) → (IsOneOf order r → ⊥) → StandOnce order → StandOnce (order ++ r ∷ [])
snoc_once r [] out once = (λ none. none, tt)
snoc_once r (k ∷ later) out once = (
  λ is. ⊎_elim (λ was. once.0 was) (λ e. out (inl (sym e))) (snoc_was r later k is),
  snoc_once r later (λ is. out (inr is)) once.1,
)

-- as many as there are numbers below a bound, at most
once_differ : (order : List ℕ) → StandOnce order → IsDistinct eqb order
unfolding IsDistinct
once_differ [] once = tt
once_differ (k ∷ later) once = (none_is later k once.0, once_differ later once.1)
  where
    none_is : (later : List ℕ) (k : ℕ) → (IsOneOf later k → ⊥) → AllByRecursion (λ y. eqb k y ≡ false) later
    none_is [] k out = tt
    none_is (y ∷ later) k out = (ne_eqb k y (λ e. out (inl e)), none_is later k (λ is. out (inr is)))

below_all : (most : ℕ) (order : List ℕ) (q : ℕ) → AllByRecursion (λ n. n < most) order → list_any (eqb q) order ≡ true → q < most
below_all most [] q within is = absurd cc
below_all most (y ∷ later) q within is = ⊎_elim
    (λ (e : q ≡ y). let low = within.0 in omega arith)
    (λ (other : q ≢ y). below_all most later q within.1 (subst (λ b. (b || list_any (eqb q) later) ≡ true) (ne_eqb q y other) is))
    (cases_eq q y)

-- with fewer GONE nodes, and other prevs of nodes that aren't GONE or lead to one that isn't
pub ordered_fewer : (gone gone' : ℕ → Type 0) (prev prev' : ℕ → ℕ) → ((n : ℕ) → gone' n → gone n) → ((n : ℕ) → gone' n → gone' (prev' n) → prev' n ≡ prev n) → (order : List ℕ)
    → Ordered gone prev order → Ordered gone' prev' order
ordered_fewer gone gone' prev prev' fewer same [] ordered = tt
ordered_fewer gone gone' prev prev' fewer same (n ∷ later) ordered = (
  λ is to. let e : prev' n ≡ prev n = same n is to in subst (IsOneOf later) (sym e) (ordered.0 (fewer n is) (subst gone e (fewer (prev' n) to))),
  ordered_fewer gone gone' prev prev' fewer same later ordered.1,
)

-- and with one more, whose prev isn't GONE
ordered_more : (gone gone' : ℕ → Type 0) (prev : ℕ → ℕ) (r : ℕ) → ((n : ℕ) → gone' n → gone n ⊎ (n ≡ r)) → (gone' (prev r) → ⊥) → (order : List ℕ)
    → Ordered gone prev order → Ordered gone' prev (without r order ++ r ∷ [])
ordered_more gone gone' prev r more last [] ordered = (λ is to. absurd (last to), tt)
ordered_more gone gone' prev r more last (n ∷ later) ordered =
    let rest = ordered_more gone gone' prev r more last later ordered.1 in
    elim (n == r) as (λ b. (n == r) ≡ b → Ordered gone' prev (cond b (without r later) (n ∷ without r later) ++ r ∷ [])) [
      | true ↦ λ _. rest
      | false ↦ λ _. (
        λ is to. ⊎_elim
            (λ was. ⊎_elim
            (λ (e : prev n ≡ r). subst (IsOneOf (without r later ++ r ∷ [])) (sym e) (last_one (without r later) r))
            (λ (other : prev n ≢ r). ⊎_elim
            (λ to_was. one_more (without r later) r (prev n) (without_has r later (prev n) other (ordered.0 was to_was)))
            (λ e. absurd (other e))
            (more (prev n) to))
            (cases_eq (prev n) r))
            (λ e. absurd (last (subst (λ k. gone' (prev k)) e to)))
            (more n is),
        rest,
      )
    ] refl

pub comes_out : (gone : ℕ → Type 0) (prev : ℕ → ℕ) → ((n : ℕ) → gone n ⊎ (gone n → ⊥)) → (order : List ℕ) → Ordered gone prev order → (n : ℕ) → IsOneOf order n → ComesOut gone prev (length order) n
comes_out gone prev or [] ordered n is = absurd is
comes_out gone prev or (k ∷ later) ordered n (inr is) = let rest = comes_out gone prev or later ordered.1 n is in record { steps = rest.steps; within = let most = rest.within in omega arith; out = rest.out }
comes_out gone prev or (k ∷ later) ordered n (inl e) = ⊎_elim
    (λ (here : gone n). ⊎_elim
    (λ (there : gone (prev n)).
    let next : IsOneOf later (prev n) = subst (λ q. IsOneOf later (prev q)) (sym e) (ordered.0 (subst gone e here) (subst (λ q. gone (prev q)) e there)) in
    let rest = comes_out gone prev or later ordered.1 (prev n) next in
    record { steps = suc rest.steps; within = let most = rest.within in omega arith; out = rest.out })
    (λ out. record { steps = 1; within = omega arith; out = out })
    (or (prev n)))
    (λ out. record { steps = 0; within = omega arith; out = out })
    (or n)

-- A step leaves no node GONE that wasn't, or it is the one that makes the right node of a merge GONE.
pub record Retires (s t : Stage) (f f' : Facts) : Type 0 where
  pub retire : IsRetire s t
  pub others : (n : ℕ) → IsGone f' n → IsGone f n ⊎ (n ≡ retire.right.node)

abbrev Goes : Stage → Stage → Facts → Facts → Type 0
Goes s t f f' = ((n : ℕ) → IsGone f' n → IsGone f n) ⊎ Retires s t f f'

module _ {l : Layout} {g : ℕ} (f : Facts) (caller index : ℕ) where
  split_goes : {s : Stage} {a : Action} {x : ℕ} {t : Stage} → (k : Split l g s a x t) → Goes s t f (split_after k f)
  split_goes (kinds.fills has positive small within soils told) = inl (λ n is. is)
  split_goes (kinds.lights {fresh = fresh} here leads) = inl (λ n is. ⊎_elim
      (λ (e : n ≡ fresh.node). absurd (let no : 1 ≡ 2 = sym (ap (λ (b : Bool). cond b live_status (f.status n)) (eq-eqb n fresh.node e)) ∙ is in omega arith))
      (λ (other : n ≢ fresh.node). sym (ap (λ (b : Bool). cond b live_status (f.status n)) (ne_eqb n fresh.node other)) ∙ is)
      (cases_eq n fresh.node))
  split_goes (kinds.switches here small durable soiled cut told means) = inl (λ n is. is)
  split_goes (kinds.glances_left has learnt) = inl (λ n is. is)
  split_goes (kinds.glances_fresh has) = inl (λ n is. is)
  split_goes (kinds.drains_left has small hand cleans) = inl (λ n is. is)
  split_goes (kinds.drains_fresh has small hand cleans) = inl (λ n is. is)
  split_goes (kinds.trims here small durable soiled anchor told means) = inl (λ n is. is)

  merge_goes : {s : Stage} {a : Action} {x : ℕ} {t : Stage} → (k : Merge l g s a x t) → Goes s t f (merge_after k f)
  merge_goes (kinds.meets here same untimed leads) = inl (λ n is. is)
  merge_goes (kinds.knows_own has positive learnt) = inl (λ n is. is)
  merge_goes (kinds.knows_right has positive told) = inl (λ n is. is)
  merge_goes (kinds.copies has content small soils learnt means) = inl (λ n is. is)
  merge_goes (kinds.takes_up has) = inl (λ n is. is)
  merge_goes (kinds.puts_down has small hand cleans) = inl (λ n is. is)
  merge_goes (kinds.parts next) = inl (λ n is. is)
  merge_goes (kinds.gathers small durable soiled told gathered) = inl (λ n is. is)
  merge_goes (kinds.joins small durable soiled next told) = inl (λ n is. is)
  merge_goes (kinds.glances_joined has learnt) = inl (λ n is. is)
  merge_goes (kinds.drains_joined has small hand cleans) = inl (λ n is. is)
  merge_goes (kinds.retires {h = h} {left = left} {right = right} durable) = inr (record {
    retire = record { held = h; left = left; right = right; was = refl; is = refl };
    others = λ n is. ⊎_elim
        (λ (e : n ≡ right.node). inr e)
        (λ (other : n ≢ right.node). inl (sym (ap (λ (b : Bool). cond b gone_status (f.status n)) (ne_eqb n right.node other)) ∙ is))
        (cases_eq n right.node);
  })
  merge_goes (kinds.yields next durable) = inl (λ n is. is)

  goes : {s : Stage} {a : Action} {x : ℕ} {t : Stage} {r : Option (Once Placed)} → (k : Step l g s a x t r) → Goes s t f (fact_after k f caller index)
  goes {s = s} {t = t} k = each_after f caller index k (λ φ. Goes s t f φ) (λ φ list status. inl (λ n is. ap (λ (u : ℕ → ℕ). u n) (sym status) ∙ is)) (λ k. split_goes k) (λ k. merge_goes k)

-- what the stage knows of where a node leads is so
pub leads_now : (l : Layout) (g : ℕ) (f : Facts) (caller index since : ℕ) (s : Stage) (n y : ℕ) → Sure l g f caller index since s → Leads s n y → f.now n next_offset ≡ y
leads_now l g f caller index since Idle n y sure leads = absurd leads
leads_now l g f caller index since (Saw m v w k) n y sure leads = absurd leads
leads_now l g f caller index since (Wears m v) n y sure leads = absurd leads
leads_now l g f caller index since (Reads m v sight told) n y sure leads = absurd leads
leads_now l g f caller index since (Holds m w h) n y sure leads = absurd leads
leads_now l g f caller index since (Eyes m w h k v u free) n y sure leads = absurd leads
leads_now l g f caller index since (Leaves left) n y sure leads = absurd leads
leads_now l g f caller index since (Meets m w h right) n y sure leads = absurd leads
leads_now l g f caller index since (Splits left fresh phase) n y sure leads = ap (λ k. f.now k next_offset) (sym leads.0) ∙ leads.1 (f.now fresh.node) sure.new.seen
leads_now l g f caller index since (Joins h left right pace) n y sure leads = ap (λ k. f.now k next_offset) (sym leads.0) ∙ leads.1 (f.now left.node) sure.one.seen

some_one : (o : Option ℕ) (n k : ℕ) → o ≡ Some n → o ≡ Some k → n ≡ k
some_one o n k e d = subst (λ (q : Option ℕ). IfSome q (λ a. a ≡ k)) e (subst (λ (q : Option ℕ). IfSome q (λ a. a ≡ k)) (sym d) refl)

none_some : (o : Option ℕ) (n : ℕ) → o ≡ None → o ≡ Some n → ⊥
none_some o n e d = absurd (let no : None ≡ Some n = sym e ∙ d in cc)

-- What is so of a party's step from one stage to another.
pub record IsStep (l : Layout) (g : ℕ) (f f' : Facts) (caller index since : ℕ) (prev : ℕ → ℕ) (s t : Stage) (d : Debt) : Type 0 where
  pub steady : (n : ℕ) → (HoldsNode s n → ⊥) → (HoldsNode t n → ⊥) → IsSteady l f f' n
  pub sure : Sure l g f caller index since s
  pub after : Sure l g f' caller index since t
  pub shape : (IsSwitch s t → ⊥) → (IsJoin s t → ⊥) → f'.list ≡ f.list
  pub known : IfSome d.known (λ k. HoldsNode s k.0 × (IsListed f k.0 → ⊥) × (prev k.0 ≡ k.1))

-- What becomes of a party's debt, and of the prevs, by a step from one stage to another.
module _ (l : Layout) (g : ℕ) (f f' : Facts) (caller index since : ℕ) (prev prev' : ℕ → ℕ) (list : IsList l f) (list' : IsList l f') (same : (n : ℕ) → prev' n ≡ prev n) where
  abbrev Step' : Stage → Stage → Debt → Type 0
  Step' s t d = IsStep l g f f' caller index since prev s t d

  -- what is known of one node
  known_is : (s t : Stage) (d : Debt) → Step' s t d → (k : ℕ × ℕ) → d.known ≡ Some k → prev k.0 ≡ k.1
  known_is s t d b k is = (subst (λ (o : Option (ℕ × ℕ)). IfSome o (λ q. HoldsNode s q.0 × (IsListed f q.0 → ⊥) × (prev q.0 ≡ q.1))) is b.known).2

  kept_known : (s t : Stage) → f'.list ≡ f.list → (o : Option (ℕ × ℕ)) → IfSome o (λ k. HoldsNode s k.0 × (IsListed f k.0 → ⊥) × (prev k.0 ≡ k.1)) → IfSome o (λ k. HoldsNode t k.0)
      → IfSome o (λ k. HoldsNode t k.0 × (IsListed f' k.0 → ⊥) × (prev' k.0 ≡ k.1))
  kept_known s t members None was holds = tt
  kept_known s t members (Some k) was holds = (holds, λ is. was.1 (subst (λ (m : List ListNode). IsIn m k.0) members is), same k.0 ∙ was.2)

  own_known : (s t : Stage) (d d' : Debt) → Step' s t d → Deals s t d d' → (d.owes ≡ None → (n : ℕ) → HoldsNode s n → IsListed f n → f.now n next_offset ≢ 0 → prev (f.now n next_offset) ≡ n)
      → IfSome d'.known (λ k. HoldsNode t k.0 × (IsListed f' k.0 → ⊥) × (prev' k.0 ≡ k.1))
  own_known s t d d' b (keeps no_switch no_join retire holds holds_owed) before = kept_known s t (b.shape no_switch no_join) d.known b.known holds
  own_known s t d d' b (forgets no_switch no_join no_retire holds) before = tt
  own_known s t d d' b (ends no_switch no_join no_retire owed leads) before = tt
  own_known s t d d' b (switches one fresh_known none) before = tt
  own_known s t d d' b (joins {left = left} {right = right} one none) before = (
    inr refl,
    b.after.at.unlisted,
    same right.node ∙ ap prev (sym b.sure.at.linked.leads) ∙ before none left.node (inl refl) b.sure.at.linked.listed (λ z. b.sure.nonzero (sym b.sure.at.linked.leads ∙ z)),
  )

  kept_owes : (s t : Stage) → f'.list ≡ f.list → (o : Option ℕ) → IfSome o (λ n. HoldsNode s n × IsListed f n) → IfSome o (HoldsNode t) → IfSome o (λ n. HoldsNode t n × IsListed f' n)
  kept_owes s t members None was holds = tt
  kept_owes s t members (Some n) was holds = (holds, subst (λ (m : List ListNode). IsIn m n) (sym members) was.1)

  own_owes : (s t : Stage) (d d' : Debt) → Step' s t d → Deals s t d d' → IfSome d.owes (λ n. HoldsNode s n × IsListed f n) → IfSome d'.owes (λ n. HoldsNode t n × IsListed f' n)
  own_owes s t d d' b (keeps no_switch no_join retire holds holds_owed) was = kept_owes s t (b.shape no_switch no_join) d.owes was holds_owed
  own_owes s t d d' b (forgets no_switch no_join no_retire holds) was = kept_owes s t (b.shape no_switch no_join) d.owes was holds
  own_owes s t d d' b (ends no_switch no_join no_retire owed leads) was = tt
  own_owes s t d d' b (switches one fresh_known none) was = (inr refl, b.after.at.listed_fresh)
  own_owes s t d d' b (joins one none) was = (inl (sym one), subst (IsListed f') (sym one) b.after.at.listed)

  module _ (Owed Owed' : ℕ → Type 0) (before : (n : ℕ) → IsListed f n → f.now n next_offset ≢ 0 → (prev (f.now n next_offset) ≡ n) ⊎ Owed n) where
    -- where the node's next is the same
    by_next : (d : Debt) → ((n : ℕ) → Owed n → Owed' n ⊎ (d.owes ≡ Some n)) → (n : ℕ) → IsListed f n → f'.now n next_offset ≡ f.now n next_offset → f'.now n next_offset ≢ 0
        → (d.owes ≡ Some n → Owed' n) → (prev' (f'.now n next_offset) ≡ n) ⊎ Owed' n
    by_next d still n listed next ne mine = ⊎_elim
        (λ is. inl (same (f'.now n next_offset) ∙ ap prev next ∙ is))
        (λ owed. inr (⊎_elim (λ there. there) mine (still n owed)))
        (before n listed (λ z. ne (next ∙ z)))

    next_kept : f'.list ≡ f.list → (n : ℕ) → IsListed f' n → IsListed f n × (f'.now n next_offset ≡ f.now n next_offset)
    next_kept members n listed =
        let was : IsListed f n = subst (λ (m : List ListNode). IsIn m n) members listed in
        (was, chain_next f.now f'.now 0 f.list list.chain (subst (IsChain f'.now 0) members list'.chain) n was)

    prevs_after : (s t : Stage) (d d' : Debt) → Step' s t d → ((n : ℕ) → Owed n → Owed' n ⊎ (d.owes ≡ Some n)) → ((n : ℕ) → d'.owes ≡ Some n → Owed' n) → Deals s t d d'
        → (n : ℕ) → IsListed f' n → f'.now n next_offset ≢ 0 → (prev' (f'.now n next_offset) ≡ n) ⊎ Owed' n
    prevs_after s t d d' b still own (keeps no_switch no_join retire holds holds_owed) n listed ne =
        let was = next_kept (b.shape no_switch no_join) n listed in by_next d still n was.0 was.1 ne (own n)
    prevs_after s t d d' b still own (forgets no_switch no_join no_retire holds) n listed ne =
        let was = next_kept (b.shape no_switch no_join) n listed in by_next d still n was.0 was.1 ne (own n)
    prevs_after s t d d' b still own (ends {n = k} no_switch no_join no_retire owed leads) n listed ne =
        let was = next_kept (b.shape no_switch no_join) n listed in
        by_next d still n was.0 was.1 ne (λ mine. absurd (ne (was.1 ∙ ap (λ q. f.now q next_offset) (some_one d.owes n k mine owed) ∙ leads_now l g f caller index since s k 0 b.sure leads)))
    prevs_after s t d d' b still own (switches {left = left} {after = left'} {fresh = fresh} one fresh_known none) n listed ne = ⊎_elim
        (λ (e : n ≡ left.node). inl (
        same (f'.now n next_offset) ∙ ap prev (ap (λ q. f'.now q next_offset) (e ∙ one) ∙ b.after.at.leads) ∙ known_is s t d b (fresh.node, left.node) fresh_known ∙ sym e
        ))
        (λ (other : n ≢ left.node). ⊎_elim
        (λ (e : n ≡ fresh.node). inr (own n (ap Some (sym e))))
        (λ (apart : n ≢ fresh.node).
        let free = b.steady n (λ holds. ⊎_elim (λ z. other (sym z)) (λ z. apart (sym z)) holds) (λ holds. ⊎_elim (λ z. other (sym (one ∙ z))) (λ z. apart (sym z)) holds) in
        by_next d still n (free.unlisted listed) (ap (λ (q : Spot). q next_offset) free.now) ne (λ mine. absurd (none_some d.owes n none mine)))
        (cases_eq n fresh.node))
        (cases_eq n left.node)
    prevs_after s t d d' b still own (joins {left = left} {after = left'} {right = right} one none) n listed ne = ⊎_elim
        (λ (e : n ≡ left.node). inr (own n (ap Some (sym e))))
        (λ (other : n ≢ left.node). ⊎_elim
        (λ (e : n ≡ right.node). absurd (b.after.at.unlisted (subst (IsListed f') e listed)))
        (λ (apart : n ≢ right.node).
        let free = b.steady n (λ holds. ⊎_elim (λ z. other (sym z)) (λ z. apart (sym z)) holds) (λ holds. ⊎_elim (λ z. other (sym (one ∙ z))) (λ z. apart (sym z)) holds) in
        by_next d still n (free.unlisted listed) (ap (λ (q : Spot). q next_offset) free.now) ne (λ mine. absurd (none_some d.owes n none mine)))
        (cases_eq n right.node))
        (cases_eq n left.node)

  -- the right node's prev, as it becomes GONE
  retire_known : (s t : Stage) (d d' : Debt) → Step' s t d → Deals s t d d' → (q : IsRetire s t) → prev q.right.node ≡ q.left.node
  retire_known s t d d' b (keeps no_switch no_join retire holds holds_owed) q = known_is s t d b (q.right.node, q.left.node) (retire q)
  retire_known s t d d' b (forgets no_switch no_join no_retire holds) q = absurd (no_retire q)
  retire_known s t d d' b (ends no_switch no_join no_retire owed leads) q = absurd (no_retire q)
  retire_known s t d d' b (switches one fresh_known none) q = absurd (let no = q.is in cc)
  retire_known s t d d' b (joins one none) q = absurd (let no = q.is in cc)

  order_after : (s t : Stage) (d d' : Debt) → Step' s t d → Deals s t d d' → Goes s t f f' → ((n : ℕ) → IsListed f' n → f'.status n ≡ live_status) → AreInOrder l.nodes (IsGone f) prev → AreInOrder l.nodes (IsGone f') prev'
  order_after s t d d' b deals (inl fewer) live was = record {
    order = was.order;
    all = λ n gone. was.all n (fewer n gone);
    ordered = ordered_fewer (IsGone f) (IsGone f') prev prev' fewer (λ n is to. same n) was.order was.ordered;
    within = was.within;
    once = was.once;
  }
  order_after s t d d' b deals (inr goes) live was =
      let q = goes.retire in
      let there : SureJoins l g f' caller index since q.held q.left q.right Gone = subst (Sure l g f' caller index since) q.is b.after in
      let lit = live q.left.node there.at.listed in
      let to : prev' q.right.node ≡ q.left.node = same q.right.node ∙ retire_known s t d d' b deals q in
      record {
        order = without q.right.node was.order ++ q.right.node ∷ [];
        all = λ n gone. ⊎_elim
            (λ (e : n ≡ q.right.node). subst (IsOneOf (without q.right.node was.order ++ q.right.node ∷ [])) (sym e) (last_one (without q.right.node was.order) q.right.node))
            (λ (other : n ≢ q.right.node). ⊎_elim
            (λ before. one_more (without q.right.node was.order) q.right.node n (without_has q.right.node was.order n other (was.all n before)))
            (λ e. absurd (other e))
            (goes.others n gone))
            (cases_eq n q.right.node);
        within = snoc_all (λ n. n < l.nodes) q.right.node (without q.right.node was.order) there.other.here (without_all (λ n. n < l.nodes) q.right.node was.order was.within);
        once = snoc_once q.right.node (without q.right.node was.order) (λ is. (without_was q.right.node was.order q.right.node is).1 refl) (without_once q.right.node was.order was.once);
        ordered = ordered_more (IsGone f) (IsGone f') prev' q.right.node goes.others
            (λ gone. absurd (let no : 1 ≡ 2 = sym lit ∙ ap f'.status (sym to) ∙ gone in omega arith)) was.order
            (ordered_fewer (IsGone f) (IsGone f) prev prev' (λ n is. is) (λ n is to. same n) was.order was.ordered);
      }

-- one that knows of its node, or owes, does so where another one steps
if_some : {A : Type 0} (P Q : A → Type 0) (o : Option A) → ((a : A) → P a → Q a) → IfSome o P → IfSome o Q
if_some P Q None step holds = tt
if_some P Q (Some a) step holds = step a holds

-- a prev is still owed where another party than the one that owes it has stepped
still_owed : (z z' : Traced) (i : ℕ) (d d' : Debt) → get_elem? z.debts i ≡ some d → z'.debts ≡ set z.debts i d'
    → ((j : ℕ) (q : Party) → j ≢ i → get_elem? z.world.parties j ≡ some q → get_elem? z'.world.parties j ≡ some q) → (n : ℕ) → IsOwed z n → IsOwed z' n ⊎ (d.owes ≡ Some n)
still_owed z z' i d d' owing debts others n owed = ⊎_elim
    (λ (e : owed.number ≡ i). inr (ap (λ (q : Debt). q.owes) (some-injective _ _ (sym owing ∙ ap (get_elem? z.debts) (sym e) ∙ owed.there)) ∙ owed.is))
    (λ (other : owed.number ≢ i). inl (record {
      number = owed.number;
      debt = owed.debt;
      party = owed.party;
      there = ap (λ (debts : List Debt). get_elem? debts owed.number) debts ∙ set_else z.debts i owed.number d' other ∙ owed.there;
      at = others owed.number owed.party other owed.at;
      is = owed.is;
    }))
    (cases_eq owed.number i)

pub step_traces : StepTraces
step_traces z i p a x t r d d' traced there owing k told room deals =
    let w = z.world in
    let l = w.layout in
    let g = w.generation in
    let f = facts w in
    let lawful = traced.lawful in
    let known = lawful.sure i p there in
    let law = step_law w i p a x t r lawful there k told room in
    let w' = stepped w i p a t in
    let f' = facts w' in
    let given = gives w.words w.base w.history p.caller p.index p.since k lawful.clock told known in
    let is : f' ≡ fact_after k f p.caller p.index = facts_step w.words w.base w.history p.caller p.index p.since k lawful.row lawful.list told known in
    let allowed = allow_law l g p.stage a x t r (sure_within l g f p.caller p.index p.since p.stage known) k in
    let prev : ℕ → ℕ = prev_in l w.words in
    let prev' : ℕ → ℕ = prev_in l w'.words in
    let same : (n : ℕ) → prev' n ≡ prev n = λ n. nodes_leave_prevs l w.words p.stage a n allowed in
    let steady : (n : ℕ) → (HoldsNode p.stage n → ⊥) → (HoldsNode t n → ⊥) → IsSteady l f f' n =
    λ n before after. subst (λ (φ : Facts). IsSteady l f φ n) (sym is) (steady_else f p.caller p.index p.since k lawful.list known n before after) in
    let after : Sure l g f' p.caller p.index p.since t = law.kept.sure i (moved_on p t) (set_here w.parties i (moved_on p t) p there) in
    let shape : (IsSwitch p.stage t → ⊥) → (IsJoin p.stage t → ⊥) → f'.list ≡ f.list =
    λ no_switch no_join. ⊎_elim (λ e. e) (λ changed. ⊎_elim (λ cut. absurd (no_switch cut.0)) (λ one. absurd (no_join one.0)) changed) (step_shapes w i p a x t r lawful there k told) in
    let step : IsStep l g f f' p.caller p.index p.since prev p.stage t d = record { steady = steady; sure = known; after = after; shape = shape; known = traced.known i d p owing there } in
    let z' : Traced = record { world = w'; debts = set z.debts i d' } in
    let own : (n : ℕ) → d'.owes ≡ Some n → IsOwed z' n =
    λ n e. record { number = i; debt = d'; party = moved_on p t; there = set_here z.debts i d' d owing; at = set_here w.parties i (moved_on p t) p there; is = e } in
    let still : (n : ℕ) → IsOwed z n → IsOwed z' n ⊎ (d.owes ≡ Some n) = still_owed z z' i d d' owing refl (λ j q other at. set_else w.parties i j (moved_on p t) other ∙ at) in
    let before : d.owes ≡ None → (n : ℕ) → HoldsNode p.stage n → IsListed f n → f.now n next_offset ≢ 0 → prev (f.now n next_offset) ≡ n =
    λ none n holds listed ne. ⊎_elim
    (λ e. e)
    (λ (owed : IsOwed z n).
    let theirs = (subst (λ (o : Option ℕ). IfSome o (λ k. HoldsNode owed.party.stage k × IsListed f k)) owed.is (traced.owes owed.number owed.debt owed.party owed.there owed.at)).0 in
    let one : owed.number ≡ i = lawful.alone owed.number i n owed.party p owed.at there theirs holds in
    absurd (none_some d.owes n none (ap (λ (q : Debt). q.owes) (some-injective _ _ (sym owing ∙ ap (get_elem? z.debts) (sym one) ∙ owed.there)) ∙ owed.is)))
    (traced.prevs n listed ne) in
    let other_steady : (j : ℕ) (q : Party) → j ≢ i → get_elem? w.parties j ≡ some q → (n : ℕ) → HoldsNode q.stage n → IsSteady l f f' n =
    λ j q apart at n holds. subst (λ (φ : Facts). IsSteady l f φ n) (sym is)
    (steadies f p.caller p.index p.since k given lawful.list known q.caller q.index q.since q.stage (λ m mine theirs. apart (lawful.alone j i m q p at there theirs mine)) (lawful.sure j q at) n holds) in
    record {
      lawful = law.kept;
      known = λ j e q at_d at_p. ⊎_elim
          (λ (first : (j ≡ i) × (d' ≡ e)). ⊎_elim
          (λ (second : (j ≡ i) × (moved_on p t ≡ q)).
          (λ (e : Debt) (q : Party) (is_d : d' ≡ e) (is_p : moved_on p t ≡ q). subst (λ (o : Debt). IfSome o.known (λ k. HoldsNode q.stage k.0 × (IsListed f' k.0 → ⊥) × (prev' k.0 ≡ k.1))) is_d
          (subst (λ (o : Party). IfSome d'.known (λ k. HoldsNode o.stage k.0 × (IsListed f' k.0 → ⊥) × (prev' k.0 ≡ k.1))) is_p
          (own_known l g f f' p.caller p.index p.since prev prev' lawful.list law.kept.list same p.stage t d d' step deals before))) e q first.1 second.1)
          (λ (second : (j ≢ i) × (get_elem? w.parties j ≡ some q)). absurd (second.0 first.0))
          (at_set w.parties i j (moved_on p t) q at_p))
          (λ (first : (j ≢ i) × (get_elem? z.debts j ≡ some e)). ⊎_elim
          (λ (second : (j ≡ i) × (moved_on p t ≡ q)). absurd (first.0 second.0))
          (λ (second : (j ≢ i) × (get_elem? w.parties j ≡ some q)).
          if_some (λ k. HoldsNode q.stage k.0 × (IsListed f k.0 → ⊥) × (prev k.0 ≡ k.1)) (λ k. HoldsNode q.stage k.0 × (IsListed f' k.0 → ⊥) × (prev' k.0 ≡ k.1)) e.known
          (λ k was. (was.0, λ listed. was.1 ((other_steady j q second.0 second.1 k.0 was.0).unlisted listed), same k.0 ∙ was.2)) (traced.known j e q first.1 second.1))
          (at_set w.parties i j (moved_on p t) q at_p))
          (at_set z.debts i j d' e at_d);
      owes = λ j e q at_d at_p. ⊎_elim
          (λ (first : (j ≡ i) × (d' ≡ e)). ⊎_elim
          (λ (second : (j ≡ i) × (moved_on p t ≡ q)).
          (λ (e : Debt) (q : Party) (is_d : d' ≡ e) (is_p : moved_on p t ≡ q). subst (λ (o : Debt). IfSome o.owes (λ n. HoldsNode q.stage n × IsListed f' n)) is_d
          (subst (λ (o : Party). IfSome d'.owes (λ n. HoldsNode o.stage n × IsListed f' n)) is_p
          (own_owes l g f f' p.caller p.index p.since prev prev' lawful.list law.kept.list same p.stage t d d' step deals (traced.owes i d p owing there)))) e q first.1 second.1)
          (λ (second : (j ≢ i) × (get_elem? w.parties j ≡ some q)). absurd (second.0 first.0))
          (at_set w.parties i j (moved_on p t) q at_p))
          (λ (first : (j ≢ i) × (get_elem? z.debts j ≡ some e)). ⊎_elim
          (λ (second : (j ≡ i) × (moved_on p t ≡ q)). absurd (first.0 second.0))
          (λ (second : (j ≢ i) × (get_elem? w.parties j ≡ some q)).
          if_some (λ n. HoldsNode q.stage n × IsListed f n) (λ n. HoldsNode q.stage n × IsListed f' n) e.owes
          (λ n was. (was.0, (other_steady j q second.0 second.1 n was.0).listed was.1)) (traced.owes j e q first.1 second.1))
          (at_set w.parties i j (moved_on p t) q at_p))
          (at_set z.debts i j d' e at_d);
      prevs = prevs_after l g f f' p.caller p.index p.since prev prev' lawful.list law.kept.list same (IsOwed z) (IsOwed z') traced.prevs p.stage t d d' step still own deals;
      order = order_after l g f f' p.caller p.index p.since prev prev' lawful.list law.kept.list same p.stage t d d' step deals
          (subst (λ (φ : Facts). Goes p.stage t f φ) (sym is) (goes f p.caller p.index k)) law.kept.live.live traced.order;
      below = λ n. let is = same n in let low = traced.below n in omega arith;
    }

pub prev_here : (l : Layout) (words : List ℕ) (m y : ℕ) → length words ≡ row_words l → m < l.nodes → prev_in l (slice_set words (prev_address l m) y) m ≡ y
unfolding prev_in
prev_here l words m y whole here = rw (lt-ltb m l.nodes here) (at-set_same l words (Volatile m prev_offset) y whole (here, omega arith))

abbrev node_of_place : Location → ℕ
node_of_place (Volatile n o) = n
node_of_place _ = 0

pub prev_else : (l : Layout) (words : List ℕ) (m y n : ℕ) → m < l.nodes → n ≢ m → prev_in l (slice_set words (prev_address l m) y) n ≡ prev_in l words n
prev_else l words m y n here other = prev_in-alike l words (slice_set words (prev_address l m) y) n
    (λ its. at-set_other l words (Volatile m prev_offset) (Volatile n prev_offset) y (here, omega arith) (its, omega arith) (λ e. other (ap node_of_place e)))

-- A prev is stored that leads to a listed node.
module _ (z : Traced) (i : ℕ) (p : Party) (d d' : Debt) (m y : ℕ) (traced : IsTraced z) (there : get_elem? z.world.parties i ≡ some p) (owing : get_elem? z.debts i ≡ some d)
    (here : m < z.world.layout.nodes) (listed : IsListed (facts z.world) y) where
  open z.world use {layout as l}

  abbrev w : World
  w = z.world

  abbrev f : Facts
  f = facts z.world

  abbrev words' : List ℕ
  words' = slice_set z.world.words (prev_address z.world.layout m) y

  abbrev prev : ℕ → ℕ
  prev = prev_in z.world.layout z.world.words

  abbrev prev' : ℕ → ℕ
  prev' = prev_in z.world.layout (slice_set z.world.words (prev_address z.world.layout m) y)

  abbrev z' : Traced
  z' = record { world = record (z.world) { words = slice_set z.world.words (prev_address z.world.layout m) y }; debts = set z.debts i d' }

  has : HasLocation l (Volatile m prev_offset)
  has = (here, omega arith)

  facts_same : facts (record (z.world) { words = words' }) ≡ f
  facts_same = facts-elsewhere l z.world.words z.world.base z.world.history (Volatile m prev_offset) y has (λ n o e. cc, λ n e. cc)

  small : y < 2 ^ 64
  small = let low = listed_within l f traced.lawful.list traced.lawful.row.layout y listed in let most = traced.lawful.row.layout.nodes in omega arith

  stored_lawful : Lawful (record (z.world) { words = words' })
  stored_lawful = beside_law z.world words' traced.lawful
      (acted_row l z.world.words (Store (prev_address l m) y) traced.lawful.row ((addresses_within l (Volatile m prev_offset) has, outside_header l (Volatile m prev_offset) has (λ k lt. (λ e. cc, λ e. cc))), small))
      facts_same
      (nearer l z.world.words words' (store_closer l z.world.words (Volatile m prev_offset) y has (λ v alike. cc)))
      (at-set_other l z.world.words (Volatile m prev_offset) Clock y has tt (λ e. cc))
      (λ v is other. at-set_other l z.world.words (Volatile m prev_offset) (Cached v) y has is (λ e. cc))

  same_else : (n : ℕ) → n ≢ m → prev' n ≡ prev n
  same_else n other = prev_else l z.world.words m y n here other

  same_here : prev' m ≡ y
  same_here = prev_here l z.world.words m y traced.lawful.row.whole here

  stored_order : AreInOrder l.nodes (IsGone f) prev'
  stored_order = record {
    order = traced.order.order;
    all = traced.order.all;
    ordered = ordered_fewer (IsGone f) (IsGone f) prev prev' (λ n is. is) (λ n is to. ⊎_elim
        (λ (e : n ≡ m). absurd (let no : 1 ≡ 2 = sym (traced.lawful.live.live y listed) ∙ ap f.status (sym (ap prev' e ∙ same_here)) ∙ to in omega arith))
        (λ other. same_else n other)
        (cases_eq n m)) traced.order.order traced.order.ordered;
    within = traced.order.within;
    once = traced.order.once;
  }

  owed_else : (n : ℕ) → IsOwed z n → IsOwed z' n ⊎ (d.owes ≡ Some n)
  owed_else = still_owed z z' i d d' owing refl (λ j q other at. at)

  same_party : (j : ℕ) (q : Party) → j ≡ i → get_elem? z.world.parties j ≡ some q → p ≡ q
  same_party j q e at = some-injective _ _ (sym there ∙ ap (get_elem? z.world.parties) (sym e) ∙ at)

  stored_traced : ((j : ℕ) (q : Party) (k : ℕ) → j ≢ i → get_elem? z.world.parties j ≡ some q → HoldsNode q.stage k → (IsListed f k → ⊥) → k ≢ m)
      → IfSome d'.known (λ k. HoldsNode p.stage k.0 × (IsListed f k.0 → ⊥) × (prev' k.0 ≡ k.1)) → IfSome d'.owes (λ n. HoldsNode p.stage n × IsListed f n)
      → ((n : ℕ) → IsListed f n → f.now n next_offset ≢ 0 → (prev' (f.now n next_offset) ≡ n) ⊎ IsOwed z' n) → IsTraced z'
  stored_traced apart own_known own_owes prevs = record {
    lawful = stored_lawful;
    known = λ j e q at_d at_p. subst (λ (φ : Facts). IfSome e.known (λ k. HoldsNode q.stage k.0 × (IsListed φ k.0 → ⊥) × (prev' k.0 ≡ k.1))) (sym facts_same)
        (⊎_elim
        (λ (first : (j ≡ i) × (d' ≡ e)). subst (λ (o : Party). IfSome e.known (λ k. HoldsNode o.stage k.0 × (IsListed f k.0 → ⊥) × (prev' k.0 ≡ k.1))) (same_party j q first.0 at_p)
        (subst (λ (o : Debt). IfSome o.known (λ k. HoldsNode p.stage k.0 × (IsListed f k.0 → ⊥) × (prev' k.0 ≡ k.1))) first.1 own_known))
        (λ (first : (j ≢ i) × (get_elem? z.debts j ≡ some e)).
        if_some (λ k. HoldsNode q.stage k.0 × (IsListed f k.0 → ⊥) × (prev k.0 ≡ k.1)) (λ k. HoldsNode q.stage k.0 × (IsListed f k.0 → ⊥) × (prev' k.0 ≡ k.1)) e.known
        (λ k was. (was.0, was.1, same_else k.0 (apart j q k.0 first.0 at_p was.0 was.1) ∙ was.2)) (traced.known j e q first.1 at_p))
        (at_set z.debts i j d' e at_d));
    owes = λ j e q at_d at_p. subst (λ (φ : Facts). IfSome e.owes (λ n. HoldsNode q.stage n × IsListed φ n)) (sym facts_same)
        (⊎_elim
        (λ (first : (j ≡ i) × (d' ≡ e)). subst (λ (o : Party). IfSome e.owes (λ n. HoldsNode o.stage n × IsListed f n)) (same_party j q first.0 at_p)
        (subst (λ (o : Debt). IfSome o.owes (λ n. HoldsNode p.stage n × IsListed f n)) first.1 own_owes))
        (λ (first : (j ≢ i) × (get_elem? z.debts j ≡ some e)). traced.owes j e q first.1 at_p)
        (at_set z.debts i j d' e at_d));
    prevs = subst (λ (φ : Facts). (n : ℕ) → IsListed φ n → φ.now n next_offset ≢ 0 → (prev' (φ.now n next_offset) ≡ n) ⊎ IsOwed z' n) (sym facts_same) prevs;
    order = subst (λ (φ : Facts). AreInOrder l.nodes (IsGone φ) prev') (sym facts_same) stored_order;
    below = λ n. ⊎_elim
        (λ (e : n ≡ m). let is = ap prev' e ∙ same_here in let low = listed_within l f traced.lawful.list traced.lawful.row.layout y listed in omega arith)
        (λ (other : n ≢ m). let is = same_else n other in let low = traced.below n in omega arith)
        (cases_eq n m);
  }

-- a store into the prev of a node that the party holds, which isn't listed
held_store : (z : Traced) (i : ℕ) (p : Party) (s : Stage) (d : Debt) (m y : ℕ) → IsTraced z → get_elem? z.world.parties i ≡ some p → get_elem? z.debts i ≡ some d → p.stage ≡ s
    → m < z.world.layout.nodes → IsListed (facts z.world) y → HoldsNode s m → (IsListed (facts z.world) m → ⊥)
    → IsTraced (record { world = record (z.world) { words = slice_set z.world.words (prev_address z.world.layout m) y }; debts = set z.debts i (record d { known = Some (m, y) }) })
held_store z i p s d m y traced there owing is here listed holds out =
    let held : HoldsNode p.stage m = subst (λ (u : Stage). HoldsNode u m) (sym is) holds in
    stored_traced z i p d (record d { known = Some (m, y) }) m y traced there owing here listed
    (λ j q k other at theirs unlisted e. other (traced.lawful.alone j i m q p at there (subst (HoldsNode q.stage) e theirs) held))
    (held, out, same_here z i p d (record d { known = Some (m, y) }) m y traced there owing here listed)
    (traced.owes i d p owing there)
    (λ n is_listed ne. ⊎_elim
    (λ e. inl (same_else z i p d (record d { known = Some (m, y) }) m y traced there owing here listed ((facts z.world).now n next_offset)
    (λ same. out (subst (IsListed (facts z.world)) same (leads_on z.world.layout (facts z.world) traced.lawful.list n is_listed ne))) ∙ e))
    (λ owed. inr (⊎_elim
    (λ there'. there')
    (λ mine. record { number = i; debt = record d { known = Some (m, y) }; party = p; there = set_here z.debts i (record d { known = Some (m, y) }) d owing; at = there; is = mine })
    (owed_else z i p d (record d { known = Some (m, y) }) m y traced there owing here listed n owed)))
    (traced.prevs n is_listed ne))

stored_by : (z : Traced) (i : ℕ) (p : Party) (s : Stage) (a : Action) (d d' : Debt) → IsTraced z → get_elem? z.world.parties i ≡ some p → get_elem? z.debts i ≡ some d → p.stage ≡ s
    → Sure z.world.layout z.world.generation (facts z.world) p.caller p.index p.since s → Prevs z.world.layout s d a d'
    → IsTraced (record { world = record (z.world) { words = acted z.world.layout z.world.words a }; debts = set z.debts i d' })
stored_by z i p s a d d' traced there owing is sure (names {left = left} {fresh = fresh}) =
    held_store z i p s d fresh.node left.node traced there owing is sure.new.here sure.at.listed (inr refl) sure.at.unlisted
stored_by z i p s a d d' traced there owing is sure (renews {left = left} {right = right} known) =
    subst (λ (o : Option (ℕ × ℕ)). IsTraced (record { world = record (z.world) { words = slice_set z.world.words (prev_address z.world.layout right.node) left.node }; debts = set z.debts i (record { known = o; owes = d.owes }) })) (sym known)
    (held_store z i p s d right.node left.node traced there owing is sure.other.here sure.at.listed (inr refl) sure.at.unlisted)
stored_by z i p s a d d' traced there owing is sure (pays {n = n} {y = y} owes leads ne here) =
    let w = z.world in
    let l = w.layout in
    let f = facts w in
    let after : Debt = record d { owes = None } in
    let listed : IsListed f n = (subst (λ (o : Option ℕ). IfSome o (λ k. HoldsNode p.stage k × IsListed f k)) owes (traced.owes i d p owing there)).1 in
    let to : f.now n next_offset ≡ y = leads_now l w.generation f p.caller p.index p.since s n y sure leads in
    let listed_next : IsListed f y = subst (IsListed f) to (leads_on l f traced.lawful.list n listed (λ q. ne (sym to ∙ q))) in
    let within : y < l.nodes = listed_within l f traced.lawful.list traced.lawful.row.layout y listed_next in
    stored_traced z i p d after y n traced there owing within listed
    (λ j q k other at theirs unlisted e. unlisted (subst (IsListed f) (sym e) listed_next))
    (if_some (λ k. HoldsNode p.stage k.0 × (IsListed f k.0 → ⊥) × (prev_in l w.words k.0 ≡ k.1)) (λ k. HoldsNode p.stage k.0 × (IsListed f k.0 → ⊥) × (prev_in l (slice_set w.words (prev_address l y) n) k.0 ≡ k.1)) d.known
    (λ k was. (was.0, was.1, same_else z i p d after y n traced there owing within listed k.0 (λ e. was.1 (subst (IsListed f) (sym e) listed_next)) ∙ was.2)) (traced.known i d p owing there))
    tt
    (λ k is_listed k_ne. ⊎_elim
    (λ (e : f.now k next_offset ≡ y).
    let one : k ≡ n = chain_one f.now 0 f.list traced.lawful.list.chain (rise_from l f traced.lawful.list) k n is_listed listed k_ne (e ∙ sym to) in
    inl (ap (prev_in l (slice_set w.words (prev_address l y) n)) e ∙ same_here z i p d after y n traced there owing within listed ∙ sym one))
    (λ (other : f.now k next_offset ≢ y). ⊎_elim
    (λ e. inl (same_else z i p d after y n traced there owing within listed (f.now k next_offset) other ∙ e))
    (λ owed. inr (⊎_elim
    (λ there'. there')
    (λ mine. absurd (other (ap (λ q. f.now q next_offset) (some_one d.owes k n mine owes) ∙ to)))
    (owed_else z i p d after y n traced there owing within listed k owed)))
    (traced.prevs k is_listed k_ne))
    (cases_eq (f.now k next_offset) y))

pub prev_traces : PrevTraces
prev_traces z i p a d d' traced there owing prevs = stored_by z i p p.stage a d d' traced there owing refl (traced.lawful.sure i p there) prevs

pub gone_come_out : GoneComeOut
gone_come_out z n traced gone =
    let order = traced.order in
    let few = length-le_from_distinct_below order.order z.world.layout.nodes (once_differ order.order order.once) (λ q is. below_all z.world.layout.nodes order.order q order.within is) in
    let out = comes_out (IsGone (facts z.world)) (prev_in z.world.layout z.world.words) (λ k. cases_eq ((facts z.world).status k) gone_status) order.order order.ordered n (order.all n gone) in
    record { steps = out.steps; within = let most = out.within in omega arith; out = out.out }

-- an eviction leaves the prevs
evict_prev : (l : Layout) (words : List ℕ) (word n : ℕ) → word < image_words l → prev_in l (rows.evicted l words word) n ≡ prev_in l words n
evict_prev l words word n within = prev_in-alike l words (rows.evicted l words word) n
    (λ here. get_or-set_other words (durable_address l word) (address_of l (Volatile n prev_offset)) (slice_index words (cached_address l word)) 0 (λ e. absurd (omega arith)))

pub evict_traces : EvictTraces
evict_traces z word traced within =
    let f = facts z.world in
    let same : facts (evicted_world z.world word) ≡ f = evict_facts z.world word in
    let prev : ℕ → ℕ = prev_in z.world.layout z.world.words in
    let prev' : ℕ → ℕ = prev_in z.world.layout (evicted_world z.world word).words in
    let alike : prev' ≡ prev = λ i n. evict_prev z.world.layout z.world.words word n within i in
    record {
      lawful = evict_law z.world word traced.lawful within;
      known = λ j e q at_d at_p. subst (λ (φ : Facts). IfSome e.known (λ k. HoldsNode q.stage k.0 × (IsListed φ k.0 → ⊥) × (prev' k.0 ≡ k.1))) (sym same)
          (subst (λ (pr : ℕ → ℕ). IfSome e.known (λ k. HoldsNode q.stage k.0 × (IsListed f k.0 → ⊥) × (pr k.0 ≡ k.1))) (sym alike) (traced.known j e q at_d at_p));
      owes = λ j e q at_d at_p. subst (λ (φ : Facts). IfSome e.owes (λ n. HoldsNode q.stage n × IsListed φ n)) (sym same) (traced.owes j e q at_d at_p);
      prevs = subst (λ (φ : Facts). (n : ℕ) → IsListed φ n → φ.now n next_offset ≢ 0 → (prev' (φ.now n next_offset) ≡ n) ⊎ IsOwed (record { world = evicted_world z.world word; debts = z.debts }) n) (sym same)
          (λ n listed ne. ⊎_elim
          (λ e. inl ((λ i. alike i (f.now n next_offset)) ∙ e))
          (λ owed. inr (record { number = owed.number; debt = owed.debt; party = owed.party; there = owed.there; at = owed.at; is = owed.is }))
          (traced.prevs n listed ne));
      order = subst (λ (φ : Facts). AreInOrder z.world.layout.nodes (IsGone φ) prev') (sym same) (subst (AreInOrder z.world.layout.nodes (IsGone f)) (sym alike) traced.order);
      below = λ n. let is : prev' n ≡ prev n = (λ i. alike i n) in let low = traced.below n in omega arith;
    }

-- a party that relies on nothing owes nothing
idle_owes : (o : Option ℕ) (s : Stage) (f : Facts) → s ≡ Idle → IfSome o (λ n. HoldsNode s n × IsListed f n) → (n : ℕ) → o ≡ Some n → ⊥
idle_owes o s f idle was n is = absurd (subst (λ (u : Stage). HoldsNode u n) idle (subst (λ (q : Option ℕ). IfSome q (λ k. HoldsNode s k × IsListed f k)) is was).0)

pub start_traces : StartTraces
start_traces z i p index d traced there owing idle =
    let q : Party = record { caller = p.caller; index = index; since = length z.world.history; stage = Idle } in
    let z' : Traced = record { world = started z.world i p index; debts = set z.debts i no_debt } in
    record {
      lawful = start_law z.world i p index traced.lawful there idle;
      known = λ j e u at_d at_p. ⊎_elim
          (λ (first : (j ≡ i) × (no_debt ≡ e)). subst (λ (o : Debt). IfSome o.known (λ k. HoldsNode u.stage k.0 × (IsListed (facts z.world) k.0 → ⊥) × (prev_in z.world.layout z.world.words k.0 ≡ k.1))) first.1 tt)
          (λ (first : (j ≢ i) × (get_elem? z.debts j ≡ some e)). ⊎_elim
          (λ (second : (j ≡ i) × (q ≡ u)). absurd (first.0 second.0))
          (λ (second : (j ≢ i) × (get_elem? z.world.parties j ≡ some u)). traced.known j e u first.1 second.1)
          (at_set z.world.parties i j q u at_p))
          (at_set z.debts i j no_debt e at_d);
      owes = λ j e u at_d at_p. ⊎_elim
          (λ (first : (j ≡ i) × (no_debt ≡ e)). subst (λ (o : Debt). IfSome o.owes (λ n. HoldsNode u.stage n × IsListed (facts z.world) n)) first.1 tt)
          (λ (first : (j ≢ i) × (get_elem? z.debts j ≡ some e)). ⊎_elim
          (λ (second : (j ≡ i) × (q ≡ u)). absurd (first.0 second.0))
          (λ (second : (j ≢ i) × (get_elem? z.world.parties j ≡ some u)). traced.owes j e u first.1 second.1)
          (at_set z.world.parties i j q u at_p))
          (at_set z.debts i j no_debt e at_d);
      prevs = λ n listed ne. ⊎_elim
          (λ e. inl e)
          (λ owed. inr (⊎_elim
          (λ still. still)
          (λ (own : d.owes ≡ Some n). absurd (idle_owes d.owes p.stage (facts z.world) idle (traced.owes i d p owing there) n own))
          (still_owed z z' i d no_debt owing refl (λ j u other at. set_else z.world.parties i j q other ∙ at) n owed)))
          (traced.prevs n listed ne);
      order = traced.order;
      below = traced.below;
    }

pub prev_at : (l : Layout) (words : List ℕ) (n : ℕ) → n < l.nodes → prev_in l words n ≡ at l words (Volatile n prev_offset)
unfolding prev_in
prev_at l words n here = rw (lt-ltb n l.nodes here) refl

pub prevs_are_nodes : PrevsAreNodes
prevs_are_nodes z n traced here = let is = prev_at z.world.layout z.world.words n here in let low = traced.below n in omega arith

pub rest_traced : RestIsTraced
rest_traced z rest none follow order below = record {
  lawful = rest_law z.world rest;
  known = λ i d p at_d at_p. subst (λ (o : Debt). IfSome o.known (λ k. HoldsNode p.stage k.0 × (IsListed (facts z.world) k.0 → ⊥) × (prev_in z.world.layout z.world.words k.0 ≡ k.1))) (sym (none i d at_d)) tt;
  owes = λ i d p at_d at_p. subst (λ (o : Debt). IfSome o.owes (λ n. HoldsNode p.stage n × IsListed (facts z.world) n)) (sym (none i d at_d)) tt;
  prevs = λ n listed ne. inl (follow n listed ne);
  order = order;
  below = below;
}

pub idle_follow : IdleFollow
idle_follow z n traced idle listed ne = ⊎_elim
    (λ e. e)
    (λ (owed : IsOwed z n). absurd (idle_owes owed.debt.owes owed.party.stage (facts z.world) (idle owed.number owed.party owed.at) (traced.owes owed.number owed.debt owed.party owed.there owed.at) n owed.is))
    (traced.prevs n listed ne)
