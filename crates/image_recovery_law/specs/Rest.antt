-- What a recovery leaves that came to its end, and what recoveries leave that are broken.
use Rattle.std.specs.Prelude.{◌≡◌, ◌≢◌, ℕ, suc, ◌+◌, ◌≤◌, ◌<◌, ◌==◌, ◌||◌, ◌↔◌, Bool, false, List, [], ◌∷◌}
use Rattle.std.specs.Prelude.{if◌then◌else◌}
use Rattle.pm_words.specs.Codes.{free_status, live_status, empty_state}
use Rattle.pm_words.specs.declared.layout.Layout.{Layout}
use Rattle.pm_words.specs.Offsets.{state_offset}
use Rattle.cat_history.specs.Maps.{Map}
use Rattle.version_lock.specs.Versions.{IsGeneration, IsFree, IsWorn, kept_count}
use Rattle.data_node.specs.Lists.{ListNode, range_in, IsIn, StaysIn}
use Rattle.updater_law.specs.Facts.{TurnTerms, TurnFacts}
use Rattle.updater_law.specs.TurnStages.{Resting}
use Rattle.updater_law.specs.Lawful.{TurnLawful}
use Rattle.image_recovery_law.specs.Columns.{Columns, anchor_of, lines_of, layer_kept, IsSound, IsMapOf, IsMix}
use Rattle.image_recovery_law.specs.Stages.{Stage, Begins, Wakes, Step, IsExact, Sure}

-- in the run of this generation nobody has locked the node
pub record IsUntaken (version generation : ℕ) : Type 0 where
  pub free : IsFree version generation
  pub count : kept_count version generation ≡ 0
  pub unworn : IsWorn version generation → ⊥

-- After a recovery of o: the columns, cached (now) and durable (safe), are sound and keep the maps of o, all of it is
-- durable, in the next generation, with an empty log, a layer that is exactly the list's, and no live slot out of its
-- node's range.
pub record Rests (l : Layout) (list : List ListNode) (o now safe : Columns) : Type 0 where
  pub sound : IsSound l list now
  pub same_map : (m : Map) → IsMapOf l list o m ↔ IsMapOf l list now m
  pub durable : safe ≡ now
  pub generation : now.generation ≡ suc o.generation
  pub empty : (j : ℕ) → now.line j state_offset ≡ empty_state
  pub exact : IsExact list now (layer_kept l now)
  pub stays : (n : ℕ) → IsIn list n → StaysIn l.slots (range_in list n) (now.spot n)
  pub untaken : (n : ℕ) → n < l.nodes → IsUntaken (now.version n) now.generation

-- So it ends, while there is a next generation.
abbrev pub EndsAtRest : Type 0
EndsAtRest = (l : Layout) (list : List ListNode) (o now safe : Columns) → IsSound l list o →
    IsGeneration (suc o.generation) → Sure l list o Wakes now safe → Rests l list o now safe

-- whether a node is in the list
abbrev pub is_behind : List ListNode → ℕ → Bool
is_behind [] n = false
is_behind (m ∷ behind) n = (n == m.node) || is_behind behind n

abbrev pub is_in : List ListNode → ℕ → Bool
is_in list n = (n == 0) || is_behind list n

-- What the law of the updater's turn reads, of an index of these columns with no call in flight: listed nodes are LIVE
-- and all others FREE, and no node has a stamp, is held, or is worn.
abbrev pub recovered_facts : Layout → List ListNode → Columns → Columns → TurnFacts
recovered_facts l list now safe = record {
  listed = is_in list;
  anchor = anchor_of now;
  status = λ n. if is_in list n then live_status else free_status;
  stamp = λ n. 0;
  held = λ n. false;
  holder = λ n. 0;
  worn = λ n. false;
  line = lines_of now;
  safe_line = lines_of safe;
  layer = layer_kept l now;
  safe_layer = layer_kept l safe;
}

-- That law holds after a recovery.
abbrev pub RestIsLawful : Type 0
RestIsLawful = (l : Layout) (list : List ListNode) (o now safe : Columns) (c : TurnTerms) → c.stamp ≢ 0 →
    Rests l list o now safe → TurnLawful c (recovered_facts l list now safe) Resting

-- The moments of a recovery of o, beside which any words may become durable at any time.
pub data Recovers (l : Layout) (list : List ListNode) (o : Columns) : Stage → Columns → Columns → Type 0 where
  loads : Recovers l list o Begins o o
  goes : {s s' : Stage} {now safe now' safe' : Columns} → Recovers l list o s now safe →
      Step l list now safe s s' now' safe' → Recovers l list o s' now' safe'
  evicts : {s : Stage} {now safe mix : Columns} → Recovers l list o s now safe → IsMix now safe mix →
      Recovers l list o s now mix

-- What so many recoveries leave of o that came one after another, each broken at some moment.
pub data Broken (l : Layout) (list : List ListNode) (o : Columns) : ℕ → Columns → Type 0 where
  none : Broken l list o 0 o
  breaks : {k : ℕ} {i now safe mix : Columns} {s : Stage} → Broken l list o k i → IsGeneration (suc i.generation) →
      Recovers l list i s now safe → IsMix now safe mix → Broken l list o (suc k) mix

-- sound, with the same list and map, and at most so many generations later
pub record IsLike (l : Layout) (list : List ListNode) (o : Columns) (k : ℕ) (i : Columns) : Type 0 where
  pub sound : IsSound l list i
  pub same_map : (m : Map) → IsMapOf l list o m ↔ IsMapOf l list i m
  pub least : o.generation ≤ i.generation
  pub most : i.generation ≤ o.generation + k

abbrev pub BrokenIsSound : Type 0
BrokenIsSound = (l : Layout) (list : List ListNode) (o i : Columns) (k : ℕ) → IsSound l list o →
    Broken l list o k i → IsLike l list o k i

-- One that comes to its end after them, while there is a next generation, leaves the map of o.
pub record IsRecovered (l : Layout) (list : List ListNode) (o i now safe : Columns) : Type 0 where
  pub rests : Rests l list i now safe
  pub same_map : (m : Map) → IsMapOf l list o m ↔ IsMapOf l list now m

abbrev pub BrokenThenWhole : Type 0
BrokenThenWhole = (l : Layout) (list : List ListNode) (o i now safe : Columns) (k : ℕ) → IsSound l list o →
    Broken l list o k i → IsGeneration (suc i.generation) → Recovers l list i Wakes now safe →
    IsRecovered l list o i now safe
