-- What a recheck of a caller is answered, and what its two steps tell.
use Rattle.std.specs.Prelude.{◌≡◌, ◌≢◌, ℕ, ◌+◌, ◌≤◌, List, [], ◌∷◌, ◌++◌, length, take}
use Rattle.cat_history.specs.Maps.{Map, map_of}
use Rattle.cat_history.specs.Scans.{range}
use Rattle.cat_history.specs.Writes.{after}
use Rattle.cat_history.specs.declared.op.Write.{Write}
use Rattle.pm_words.specs.declared.action.Action.TheVariants.{Load}
use Rattle.pm_words.specs.declared.again.Again.TheVariants.{Moved}
use Rattle.pm_words.specs.declared.machine.Turn.TheVariants.{Go, Done}
use Rattle.call_stages.specs.declared.once.Once.{Once}
use Rattle.call_stages.specs.declared.once.Once.TheVariants as once
use Rattle.call_stages.specs.Kinds.{Told, clock_address, version_address}
use Rattle.node_ops.specs.declared.recheck.Recheck.TheVariants.{Dating}
use Rattle.node_ops.specs.declared.recheck.Same.{Same}
use Rattle.node_ops.specs.Parts.{pairs_of}
use Rattle.node_ops.specs.RecheckSteps.{recheck_turned}
use Rattle.atomic_table.specs.Table.{Me}
use Rattle.pac_index.specs.declared.rule.AnsweredPart.{AnsweredPart}
use Rattle.pac_index.specs.declared.rule.Member.{Member}
use Rattle.pac_index.specs.Calls.{run_of}
use Rattle.pac_index.specs.Kept.{Begins, HasPart, IsLone, party, placed_by, view_in}

-- At each place from the part's own one to this one, the part lists the first names of the map from its low one on, up
-- to its high one, with their numbers: as many as it was to list at most, and all of them where those are no fewer than
-- a node has slots.
pub record IsStill (slots : ℕ) (base : Map) (history : List Write) (a : AnsweredPart) (place : ℕ) : Type 0 where
  pub lists : (between : ℕ) → a.words.place ≤ between → between ≤ place →
      pairs_of a.words ≡ take a.count (range (after base history between) a.low a.words.high)
  pub whole : slots ≤ a.count → (between : ℕ) → a.words.place ≤ between → between ≤ place →
      pairs_of a.words ≡ range (after base history between) a.low a.words.high

-- So it is with each part of this node that told this version word, of those that the caller was answered.
abbrev pub AreStill : ℕ → ℕ → Member → List Write → ℕ → Type 0
AreStill node version v history place = (a : AnsweredPart) → HasPart v.known a → a.words.node ≡ node →
    a.words.version ≡ version → IsStill v.about.layout.slots (map_of v.about.base) history a place

-- What one load of a party leaves that goes on as it is, and is told this number behind these: its caller has seen the
-- whole history then.
pub record Looks (before : List ℕ) (v : Member) (x : ℕ) (w : Member) : Type 0 where
  pub about : w.about ≡ v.about
  pub state : w.state ≡ v.state
  pub told : w.told ≡ before ++ x ∷ []
  pub taken : w.taken ≡ v.taken + 1
  pub added : w.added ≡ v.added
  pub none_free : w.none_free ≡ v.none_free
  pub known : w.known ≡ v.known
  pub seen : Begins v.seen w.seen
  pub own : placed_by v.state.caller w.seen ≡ placed_by v.state.caller v.seen

-- The load of the clock tells how long the history is.
pub record Dates (v : Member) (x : ℕ) (w : Member) : Type 0 where
  pub looks : Looks [] v x w
  pub told : Told v.about.layout v.about.generation (Load (clock_address v.about.layout)) x
  pub clock : x ≡ length w.seen

-- The load of the node's version word tells that the parts of it are so still that told this word.
pub record Checks (node : ℕ) (v : Member) (x : ℕ) (w : Member) : Type 0 where
  pub looks : Looks v.told v x w
  pub told : Told v.about.layout v.about.generation (Load (version_address v.about.layout node)) x
  pub still : AreStill node x v w.seen (length w.seen)

abbrev pub StartsRecheck : Me (Unit {0}) (List Member) → ℕ → Me (Unit {0}) (List Member) → Type 0
StartsRecheck me found after = IsLone after × Dates (party me) found (party after)

abbrev pub EndsRecheck : ℕ → Me (Unit {0}) (List Member) → ℕ → Me (Unit {0}) (List Member) → Type 0
EndsRecheck node me found after = IsLone after × Checks node (party me) found (party after)

-- What the answer says. All is the same: its place is that of the clock which this recheck loaded, and each part of the
-- node that told this version word is so still at that place. Or another version word was found.
abbrev pub SaysSame : ℕ → ℕ → Member → Once Same → Member → Type 0
SaysSame node version old (once.Done same) new =
    ((length old.seen ≤ same.place) × (same.place ≤ length new.seen)) ×
    AreStill node version old new.seen same.place
SaysSame node version old (once.Again (Moved moved first second)) new =
    (moved ≡ node) × (first ≡ version) × (second ≢ version)
SaysSame node version old _ new = ⊥

-- What a recheck of this node with this version word is answered: what its machine ends with on the clock and the
-- version word, which its two loads gave. Its caller has seen a longer history, with no more writes of its own, and
-- knows the parts that it knew.
pub record Rechecked (node version : ℕ) (old : Member) (answer : Once Same) (new : Member) : Type 0 where
  pub about : new.about ≡ old.about
  pub state : new.state ≡ old.state
  pub ran : run_of recheck_turned (Go (Dating (view_in old) node version)) new.told ≡ Done answer
  pub taken : new.taken ≡ old.taken + length new.told
  pub added : new.added ≡ old.added
  pub none_free : new.none_free ≡ old.none_free
  pub known : new.known ≡ old.known
  pub seen : Begins old.seen new.seen
  pub own : placed_by old.state.caller new.seen ≡ placed_by old.state.caller old.seen
  pub says : SaysSame node version old answer new
