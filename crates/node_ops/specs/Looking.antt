-- What a look-up that is alone comes to, from one of its turns on.
use Rattle.std.specs.Prelude.{◌≡◌, ℕ, Bool, List, Option, if◌then◌else◌, nat_lt, replicate}
use Rattle.pm_words.specs.Images.{Row}
use Rattle.pm_words.specs.declared.machine.Turn.{Turn}
use Rattle.pm_words.specs.declared.machine.Turn.TheVariants.{Go, Done}
use Rattle.cat_key.specs.declared.TheConstants.{WORDS}
use Rattle.data_node.specs.declared.slots.TheConstants.{PRINT_WORDS}
use Rattle.data_node.specs.Bits.{without_live}
use Rattle.data_list.specs.declared.target.Sighting.{Sighting}
use Rattle.data_list.specs.declared.target.Target.{Target}
use Rattle.machine_runs.specs.Runs.{Bursts, MayGoFrom}
use Rattle.node_ops.specs.declared.call.Call.{Call}
use Rattle.node_ops.specs.declared.lookup.Hold.{Hold}
use Rattle.node_ops.specs.declared.lookup.Directory.{Directory}
use Rattle.node_ops.specs.declared.lookup.Hit.{Hit}
use Rattle.node_ops.specs.declared.lookup.Looked.{Looked}
use Rattle.node_ops.specs.declared.lookup.Looked.TheVariants as looked
use Rattle.node_ops.specs.declared.lookup.Lookup.{Lookup}
use Rattle.node_ops.specs.declared.lookup.LookupAt.TheVariants as at
use Rattle.node_ops.specs.LookupSteps.{lookup_asks, lookup_left, lookup_takes, lookup_turned}
use Rattle.node_ops.specs.LookupSteps.{came_to, goes_to, next_candidate, saw_directory}

-- where the turn goes on, the look-up may go on so
abbrev pub MayLookFrom : Row → Turn Lookup Looked → Type 0
MayLookFrom old turn = MayGoFrom lookup_asks lookup_turned lookup_left lookup_takes old turn

-- From this turn on it has looked: where the turn goes on, by a burst, before whose last turn it has this call; else
-- the turn is its end already, nothing was done, and it has the call that it had before.
abbrev pub LooksFrom : Row → Row → Call → Turn Lookup Looked → Call → Looked → ℕ → ℕ → Type 0
LooksFrom old new before (Go machine) call answer begun ended =
    (b : Bursts lookup_asks lookup_turned lookup_left old new machine (Done answer) begun ended) × (call ≡ b.last.call)
LooksFrom old new before (Done early) call answer begun ended =
    (answer ≡ early) × (new ≡ old) × (call ≡ before) × (ended ≡ begun)

-- From the one turn a look-up with this call has come to the other one: it may go on from there, and what it comes to
-- from there on it comes to from the first.
pub record LeadsTo (old now : Row) (call : Call) (from to : Turn Lookup Looked) (begun steps : ℕ) : Type 0 where
  pub may : MayLookFrom now to
  pub looks : (new : Row) (last : Call) (answer : Looked) (ended : ℕ) →
      LooksFrom now new call to last answer steps ended → LooksFrom old new call from last answer begun ended

-- a target with this node, after so many hops, and with this version word
pub record IsTargetAt (node hops version : ℕ) (target : Target) : Type 0 where
  pub node_is : target.node ≡ node
  pub hops_are : target.hops ≡ hops
  pub version_is : target.version ≡ version

-- it is at its target, whatever else the walk saw of that
abbrev pub MayWork : Row → Call → ℕ → ℕ → ℕ → Type 0
MayWork old call node hops version =
    (target : Target) × IsTargetAt node hops version target × MayLookFrom old (came_to call target)

abbrev pub Works : Row → Row → Call → ℕ → ℕ → ℕ → Call → Looked → ℕ → ℕ → Type 0
Works old new call node hops version last answer begun ended =
    (target : Target) → IsTargetAt node hops version target → MayLookFrom old (came_to call target) →
    LooksFrom old new call (came_to call target) last answer begun ended

-- it locks its node
abbrev pub MayLock : Row → Call → ℕ → ℕ → Type 0
MayLock old call version locked =
    (seen : Sighting) × (seen.version ≡ version) × MayLookFrom old (goes_to call (at.Lock seen locked))

abbrev pub Locks : Row → Row → Call → ℕ → ℕ → Looked → ℕ → ℕ → Type 0
Locks old new call version locked answer begun ended =
    (seen : Sighting) → seen.version ≡ version → MayLookFrom old (goes_to call (at.Lock seen locked)) →
    LooksFrom old new call (goes_to call (at.Lock seen locked)) call answer begun ended

-- it loads the fingerprints, of which it has so many
abbrev pub has_prints : Call → Hold → ℕ → List ℕ → ℕ → Turn Lookup Looked
has_prints call hold bitmap prints k =
    if nat_lt k PRINT_WORDS
    then goes_to call (at.Prints hold bitmap prints k)
    else saw_directory call hold (record { bitmap = bitmap; prints = prints })

-- it has all of them, whatever it holds, and whatever the bitmap was
abbrev pub loads_prints : Call → Hold → ℕ → Turn Lookup Looked
loads_prints call hold bitmap = goes_to call (at.Prints hold bitmap (replicate 8 0) 0)

abbrev pub MayLoadPrints : Row → Call → Type 0
MayLoadPrints old call = (hold : Hold) × (bitmap : ℕ) × MayLookFrom old (loads_prints call hold bitmap)

abbrev pub LoadsPrints : Row → Row → Call → List ℕ → ℕ → ℕ → Type 0
LoadsPrints old new call prints begun ended =
    (hold : Hold) (bitmap : ℕ) → MayLookFrom old (loads_prints call hold bitmap) →
    LeadsTo old new call (loads_prints call hold bitmap)
    (saw_directory call hold (record { bitmap = bitmap; prints = prints })) begun ended

-- it compares its name with those of the candidates, whatever it holds, and whatever the directory
abbrev pub MayCompare : Row → Call → ℕ → Type 0
MayCompare old call left = (hold : Hold) × (directory : Directory) ×
    MayLookFrom old (next_candidate call hold directory left)

abbrev pub Compares : Row → Row → Call → ℕ → Option Hit → ℕ → ℕ → Type 0
Compares old new call left hit begun ended =
    (hold : Hold) (directory : Directory) → MayLookFrom old (next_candidate call hold directory left) →
    LooksFrom old new call (next_candidate call hold directory left) call
    (looked.Found (record { hold = hold; directory = directory; hit = hit })) begun ended

-- it compares its name with that of a slot, of which it has so many words, and they are the same
abbrev pub has_words : Call → Hold → Directory → ℕ → ℕ → ℕ → Turn Lookup Looked
has_words call hold directory left slot k =
    if nat_lt k WORDS
    then goes_to call (at.Name hold directory left slot k)
    else goes_to call (at.Value hold directory slot)

-- the slot has the name, and it loads the value, or it hasn't
abbrev pub told_name : Call → Hold → Directory → ℕ → ℕ → Bool → Turn Lookup Looked
told_name call hold directory left slot same =
    if same
    then goes_to call (at.Value hold directory slot)
    else next_candidate call hold directory (without_live left slot)

abbrev pub MayCompareIn : Row → Call → ℕ → Type 0
MayCompareIn old call slot = (hold : Hold) × (directory : Directory) × (left : ℕ) ×
    MayLookFrom old (goes_to call (at.Name hold directory left slot 0))

abbrev pub ComparesIn : Row → Row → Call → ℕ → Bool → ℕ → ℕ → Type 0
ComparesIn old new call slot same begun ended =
    (hold : Hold) (directory : Directory) (left : ℕ) →
    MayLookFrom old (goes_to call (at.Name hold directory left slot 0)) →
    LeadsTo old new call (goes_to call (at.Name hold directory left slot 0))
    (told_name call hold directory left slot same) begun ended
