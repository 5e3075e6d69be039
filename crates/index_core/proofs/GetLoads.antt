-- Each action of a get is a load, and so it changes no word.
use Rattle.std.proofs.Common.{◌≡◌, ℕ, List}
use Rattle.std.specs.Prelude.{Option, Some, None, IsSome, IsTrue}
use Rattle.std.proofs.lemmas.List.{set-get_or}
use Rattle.pm_words.specs.declared.layout.Layout.{Layout}
use Rattle.pm_words.specs.declared.action.Action.{Action}
use Rattle.pm_words.specs.declared.action.Action.TheVariants.{Load, Store, Exchange, Add, Drain}
use Rattle.pm_words.specs.Rows.{acted}
use Rattle.data_list.specs.declared.walk.WalkAt.{WalkAt}
use Rattle.data_list.specs.declared.walk.WalkAt.TheVariants as walk_at
use Rattle.data_list.specs.Walks.{walk_at_asks}
use Rattle.node_ops.specs.declared.call.Call.{Call}
use Rattle.node_ops.specs.declared.get.Get.{Get}
use Rattle.node_ops.specs.declared.get.Get.TheVariants.{Looking, Checking}
use Rattle.node_ops.specs.declared.lookup.LookupAt.{LookupAt}
use Rattle.node_ops.specs.declared.lookup.LookupAt.TheVariants as at
use Rattle.node_ops.specs.declared.running.Running.{Running}
use Rattle.node_ops.specs.declared.running.Running.TheVariants.{Getting, Putting, Deleting, Parting}
use Rattle.node_ops.specs.Asked.{IsOf}
use Rattle.node_ops.specs.GetSteps.{IsGet, get_asks}
use Rattle.node_ops.specs.LookupSteps.{IsLookupAt, is_spent, lookup_at_asks}
use Rattle.node_ops.specs.RunningSteps.{IsRunning, count_in}
use Rattle.index_core.specs.declared.party.CoreCall.{CoreCall}
use Rattle.index_core.specs.declared.party.CoreCall.TheVariants as call
use Rattle.index_core.specs.declared.party.PartyState.{PartyState}
use Rattle.index_core.specs.CoreCalls.{IsGetCall, count_of, op_of}
use Rattle.index_core.specs.Indexes.{Index, IsGetting, KeepsWords, stepped_index}

abbrev IsLoad : Action → Type 0
IsLoad (Load address) = Unit {0}
IsLoad _ = ⊥

walk_loads : (l : Layout) (node : ℕ) (a : WalkAt) → IsLoad (walk_at_asks l node a)
walk_loads l node walk_at.Version = tt
walk_loads l node (walk_at.Status version) = tt
walk_loads l node (walk_at.First version) = tt
walk_loads l node (walk_at.Second version first) = tt
walk_loads l node (walk_at.Third version first second) = tt
walk_loads l node (walk_at.Next version low) = tt
walk_loads l node (walk_at.HighFirst version low next) = tt
walk_loads l node (walk_at.HighSecond version low next first) = tt
walk_loads l node (walk_at.HighThird version low next first second) = tt
walk_loads l node walk_at.Prev = tt

-- without a limit it locks nothing, and is never spent
no_limit : (limit : Option ℕ) → limit ≡ None → IsSome limit → ⊥
no_limit None none has = absurd cc
no_limit (Some most) none has = absurd cc

never_spent : (limit : Option ℕ) (clock : ℕ) → limit ≡ None → IsTrue (is_spent limit clock) → ⊥
never_spent None clock none spent = absurd cc
never_spent (Some most) clock none spent = absurd cc

lookup_loads : (c : Call) (a : LookupAt) → c.limit ≡ None → IsLookupAt c a → IsLoad (lookup_at_asks c a)
lookup_loads c (at.Floor floor) none here = tt
lookup_loads c (at.Walk walk) none here = walk_loads walk.layout walk.node walk.at
lookup_loads c (at.Read seen) none here = tt
lookup_loads c (at.Lock seen locked) none here = absurd (no_limit c.limit none here.0)
lookup_loads c (at.Clock locked) none here = tt
lookup_loads c (at.Spent hold) none here = absurd (never_spent c.limit hold.clock none here.1)
lookup_loads c (at.Bitmap hold) none here = tt
lookup_loads c (at.Prints hold bitmap prints k) none here = tt
lookup_loads c (at.Name hold directory left slot k) none here = tt
lookup_loads c (at.Value hold directory slot) none here = tt

get_loads : (get : Get) → IsGet get → IsLoad (get_asks get)
get_loads (Looking lookup) is = lookup_loads lookup.call lookup.at is.1 is.0.here
get_loads (Checking c hold old) is = tt

load_keeps : (l : Layout) (words : List ℕ) (a : Action) → IsLoad a → acted l words a ≡ words
load_keeps l words (Load address) is = set-get_or words address 0
load_keeps l words (Store address value) is = absurd is
load_keeps l words (Exchange address old new) is = absurd is
load_keeps l words (Add address) is = absurd is
load_keeps l words (Drain address value) is = absurd is

-- a step of a get changes no word
pub get_keeps_words : (s : Index) (party : ℕ) (state : PartyState) (m : Running) (spare : ℕ) → IsRunning m
    → IsGetting m → KeepsWords s (stepped_index s party state m spare)
get_keeps_words s party state (Getting get) spare fits getting =
    load_keeps s.layout s.words (get_asks get) (get_loads get fits)
get_keeps_words s party state (Putting put) spare fits getting = absurd getting
get_keeps_words s party state (Deleting del) spare fits getting = absurd getting
get_keeps_words s party state (Parting p) spare fits getting = absurd getting

-- what makes a get is one
pub call_is_get : (c : CoreCall) (m : Running) → IsGetCall c → IsOf (op_of c) m → count_in m ≡ count_of c → IsGetting m
call_is_get (call.Get name) (Getting get) is of count = tt
call_is_get (call.Get name) (Putting put) is of count = absurd of
call_is_get (call.Get name) (Deleting del) is of count = absurd of
call_is_get (call.Get name) (Parting p) is of count = absurd (cc)
call_is_get (call.Put name value limit) m is of count = absurd is
call_is_get (call.Del name limit) m is of count = absurd is
call_is_get (call.Part low count) m is of same = absurd is
call_is_get (call.Recheck node version) m is of count = absurd is
call_is_get (call.Turn stamp release) m is of count = absurd is
