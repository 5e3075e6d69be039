-- A recheck that is made with nothing else in flight.
use Rattle.std.proofs.Common.{◌≡◌, ℕ, ◌+◌, ◌≤◌, List, length, set, slice_set, refl, sym, ap, ◌∙◌, subst, arith}
use Rattle.std.specs.Prelude.{Option, Some, None, IfSome}
use mathlib.Core.Option.{some, some-injective}
use lib.ListN.{get_elem?}
use Rattle.pm_words.specs.declared.again.Again.TheVariants as again
use Rattle.pm_words.specs.declared.machine.Turn.{Turn}
use Rattle.pm_words.specs.declared.machine.Turn.TheVariants.{Go, Done}
use Rattle.call_stages.specs.declared.once.Once.{Once}
use Rattle.call_stages.specs.declared.once.Once.TheVariants as once
use Rattle.index_law.specs.Facts.{version_in}
use Rattle.index_law.specs.Worlds.{facts}
use Rattle.index_law.proofs.AnySteps.{set_own}
use Rattle.index_law.proofs.Parties.{set_here}
use Rattle.node_ops.specs.declared.recheck.Recheck.{Recheck}
use Rattle.node_ops.specs.declared.recheck.Recheck.TheVariants.{Dating, Checking}
use Rattle.node_ops.specs.declared.recheck.Same.{Same}
use Rattle.node_ops.specs.RecheckSteps.{recheck_left, recheck_node, recheck_turned, recheck_version}
use Rattle.node_ops.specs.Rechecks.{IsRechecked}
use Rattle.index_core.specs.declared.party.PartyState.{PartyState}
use Rattle.index_core.specs.declared.party.Rechecking.{Rechecking}
use Rattle.index_core.specs.declared.party.Whole.TheVariants as whole
use Rattle.index_core.specs.PartyStates.{recheck_after, recheck_reply, state_rechecked}
use Rattle.index_core.specs.Indexes.{Index, IsIndex, IsRechecking, view_of, world}
use Rattle.index_core.specs.Lone.{HasNoRechecks}
use Rattle.index_core.specs.Rechecks.{CutsRecheckOff, GoesOnSame, RecheckSteps, RechecksAlone, StartsRecheck, recheck_told}
use Rattle.index_core.proofs.Lists.{set_twice, some_same}

-- The index as the party's recheck goes on, which has so many actions left.
pub record LoneRecheck (s0 s : Index) (i node version left : ℕ) : Type 0 where
  pub unchecked : HasNoRechecks s0
  pub index : IsIndex s
  pub state : PartyState
  pub there : get_elem? s0.states i ≡ some state
  pub machine : Recheck
  pub node_is : recheck_node machine ≡ node
  pub version_is : recheck_version machine ≡ version
  pub left_is : recheck_left machine ≡ left
  pub is : s ≡ record s0 { states = slice_set s0.states i (record state { recheck = Some (record { since = length s0.history; machine = machine }) }) }

pub lone_recheck_begins : (s0 s : Index) (i node version : ℕ) → HasNoRechecks s0 → StartsRecheck s0 i node version s → IsIndex s → LoneRecheck s0 s i node version 2
lone_recheck_begins s0 s i node version unchecked t index =
    record { unchecked = unchecked; index = index; state = t.state; there = t.there; machine = Dating (view_of s0 i) node version; node_is = refl; version_is = refl; left_is = refl; is = t.is }

some_left : (r : Recheck) → 1 ≤ recheck_left r
some_left (Dating view node version) = omega arith
some_left (Checking view node version clock) = omega arith

pub lone_recheck_left : (s0 s : Index) (i node version left : ℕ) → LoneRecheck s0 s i node version left → 1 ≤ left
lone_recheck_left s0 s i node version left o = subst (λ (n : ℕ). 1 ≤ n) o.left_is (some_left o.machine)

pub lone_recheck_cut : (s0 s : Index) (i node version left : ℕ) → LoneRecheck s0 s i node version left → CutsRecheckOff s0 i node version s
lone_recheck_cut s0 s i node version left o = record { state = o.state; there = o.there; recheck = o.machine; node_is = o.node_is; version_is = o.version_is; is = o.is }

-- what a turn comes to, by its reply
goes : (t : Turn Recheck (Once Same)) → recheck_reply t ≡ None → (next : Recheck) × (t ≡ Go next)
goes (Go next) is = (next, refl)
goes (Done answer) is = absurd cc

ends : (t : Turn Recheck (Once Same)) (answer : Once Same) → recheck_reply t ≡ Some answer → t ≡ Done answer
ends (Go next) answer is = absurd cc
ends (Done first) answer is = (let same : first ≡ answer = cc in ap (λ (a : Once Same). Done a) same)

-- one that goes on has one action fewer
left_then : (r next : Recheck) (x : ℕ) → recheck_turned r x ≡ Go next → recheck_left next + 1 ≡ recheck_left r
left_then (Dating view node version) next x is = (let same : Checking view node version x ≡ next = cc in subst (λ (q : Recheck). recheck_left q + 1 ≡ 2) same refl)
left_then (Checking view node version clock) next x is = absurd cc

last_left : (r : Recheck) (x : ℕ) (answer : Once Same) → recheck_turned r x ≡ Done answer → recheck_left r ≡ 1
last_left (Dating view node version) x answer is = absurd cc
last_left (Checking view node version clock) x answer is = refl

module _ (s0 s : Index) (i node version left : ℕ) (o : LoneRecheck s0 s i node version left) where
  abbrev r : Rechecking
  r = record { since = length s0.history; machine = o.machine }

  abbrev now : PartyState
  now = record (o.state) { recheck = Some r }

  at_i : get_elem? s.states i ≡ some now
  at_i = ap (λ (v : Index). get_elem? v.states i) o.is ∙ set_here s0.states i now o.state o.there

  pub lone_recheck_flies : IsRechecking s i
  lone_recheck_flies = record { state = now; machine = r; there = at_i; flies = refl }

  module _ (s' : Index) (result : Option (Once Same)) (t : RecheckSteps s i s' result) where
    state_is : t.state ≡ now
    state_is = some-injective _ _ (sym t.there ∙ at_i)

    rechecking_is : t.rechecking ≡ r
    rechecking_is = some_same (sym t.checks ∙ ap (λ (d : PartyState). d.recheck) state_is)

    turn_is : recheck_turned t.rechecking.machine (recheck_told s t.rechecking.machine) ≡ recheck_turned o.machine (recheck_told s o.machine)
    turn_is = λ k. recheck_turned (rechecking_is k).machine (recheck_told s (rechecking_is k).machine)

    replies : result ≡ recheck_reply (recheck_turned o.machine (recheck_told s o.machine))
    replies = t.answers ∙ ap recheck_reply turn_is

    -- the index behind the step
    then_is : (turn : Turn Recheck (Once Same)) → recheck_turned o.machine (recheck_told s o.machine) ≡ turn
        → s' ≡ record s0 { states = set s0.states i (record (o.state) { recheck = recheck_after (length s0.history) turn }) }
    then_is turn same =
        t.is
        ∙ (λ k. record s { states = set s.states i (state_rechecked (state_is k) (rechecking_is k).since ((turn_is ∙ same) k)) })
        ∙ (λ k. record (o.is k) { states = set (o.is k).states i (state_rechecked now (length s0.history) turn) })
        ∙ ap (λ (states : List PartyState). record s0 { states = states }) (set_twice s0.states i now (record (o.state) { recheck = recheck_after (length s0.history) turn }))

    pub lone_recheck_goes : IsIndex s' → result ≡ None → (less : ℕ) × (less + 1 ≡ left) × LoneRecheck s0 s' i node version less
    lone_recheck_goes index going =
        let go = goes (recheck_turned o.machine (recheck_told s o.machine)) (sym replies ∙ going) in
        let same = subst (GoesOnSame o.machine) go.1 (subst (λ (q : Rechecking). GoesOnSame q.machine (recheck_turned q.machine (recheck_told s q.machine))) rechecking_is t.same) in (
          recheck_left go.0,
          left_then o.machine go.0 (recheck_told s o.machine) go.1 ∙ o.left_is,
          record {
            unchecked = o.unchecked;
            index = index;
            state = o.state;
            there = o.there;
            machine = go.0;
            node_is = same.node ∙ o.node_is;
            version_is = same.version ∙ o.version_is;
            left_is = refl;
            is = then_is (Go go.0) go.1;
          },
        )

    -- an answer is its last action
    pub lone_recheck_last : (answer : Once Same) → result ≡ Some answer → left ≡ 1
    lone_recheck_last answer ended =
        sym o.left_is ∙ last_left o.machine (recheck_told s o.machine) answer (ends (recheck_turned o.machine (recheck_told s o.machine)) answer (sym replies ∙ ended))

    -- once it is answered, nothing has changed
    pub lone_recheck_ends : (answer : Once Same) → result ≡ Some answer → s' ≡ s0
    lone_recheck_ends answer ended =
        then_is (Done answer) (ends (recheck_turned o.machine (recheck_told s o.machine)) answer (sym replies ∙ ended))
        ∙ (λ k. record s0 { states = set s0.states i (record (o.state) { recheck = sym (o.unchecked i o.state o.there) k }) })
        ∙ ap (λ (states : List PartyState). record s0 { states = states }) (set_own s0.states i o.state o.there)

    tells : (answer : Once Same) → result ≡ Some answer → IsRechecked (length s0.history) (facts (world s)) o.machine answer
    tells answer ended = subst (λ (q : Rechecking). IsRechecked q.since (facts (world s)) q.machine answer) rechecking_is (subst (λ (a : Option (Once Same)). IfSome a (IsRechecked t.rechecking.since (facts (world s)) t.rechecking.machine)) ended t.tells)

    version_now : (facts (world s)).version (recheck_node o.machine) ≡ version_in s0.layout s0.words node
    version_now = λ k. version_in (o.is k).layout (o.is k).words (o.node_is k)

    pub lone_recheck_same : (same : Same) → result ≡ Some (once.Done same) → RechecksAlone s0 node version s' (whole.Same same.place)
    lone_recheck_same same ended =
        let told = tells (once.Done same) ended in
        let later = told.1 in
        let within = told.2 in
        let history : length s.history ≡ length s0.history = ap (λ (v : Index). length v.history) o.is in
        let place : same.place ≡ length s0.history = omega (arith, later, within, history) in
        record {
          version_is = sym version_now ∙ told.0 ∙ o.version_is;
          answer = ap (λ (n : ℕ). whole.Same n) place;
          same = lone_recheck_ends (once.Done same) ended;
        }

    -- and where the node has the version word, it is found so
    pub lone_recheck_finds : version_in s0.layout s0.words node ≡ version → (answer : Once Same) → result ≡ Some answer → (same : Same) × (answer ≡ once.Done same)
    lone_recheck_finds is answer ended = by answer (tells answer ended)
      where
        by : (a : Once Same) → IsRechecked (length s0.history) (facts (world s)) o.machine a → (same : Same) × (a ≡ once.Done same)
        by (once.Done same) told = (same, refl)
        by (once.Again (again.Moved n first second)) (at_node, handed, found, other) = absurd (other (found ∙ version_now ∙ is ∙ sym o.version_is ∙ sym handed))
        by (once.Again (again.Locked n word)) told = absurd told
        by (once.Again (again.Hops count)) told = absurd told
        by (once.Again again.LogFull) told = absurd told
        by (once.Again again.NoFree) told = absurd told
        by (once.Again (again.NeedsSplit n)) told = absurd told
        by (once.Again (again.Held word)) told = absurd told
        by (once.Again (again.Epoch first second)) told = absurd told
        by (once.Spent clock) told = absurd told
        by (once.Worn n word) told = absurd told
