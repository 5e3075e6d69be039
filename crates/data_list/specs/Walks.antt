-- The walk to the node of a key, step by step.
use Rattle.std.specs.Prelude.{◌≡◌, ◌≢◌, ℕ, ◌+◌, ◌-◌, ◌*◌, ◌<◌, ◌≤◌, ◌==◌, nat_lt, if◌then◌else◌, List, [], ◌∷◌}
use Rattle.std.specs.Prelude.{Option, Some, None}
use Rattle.pm_words.specs.Codes.{live_status, gone_status}
use Rattle.pm_words.specs.declared.layout.Layout.{Layout}
use Rattle.pm_words.specs.declared.action.Action.{Action}
use Rattle.pm_words.specs.declared.action.Action.TheVariants.{Load}
use Rattle.pm_words.specs.declared.again.Again.TheVariants.{Locked, Hops}
use Rattle.pm_words.specs.declared.machine.Turn.{Turn}
use Rattle.pm_words.specs.declared.machine.Turn.TheVariants.{Go, Done}
use Rattle.pm_words.specs.Layouts.{IsLayout}
use Rattle.pm_words.specs.Offsets.{next_offset, anchor_offset}
use Rattle.version_lock.specs.Versions.{generation_of, IsFree, is_free_word}
use Rattle.data_node.specs.Lists.{number_of}
use Rattle.call_stages.specs.Kinds.{word_address, version_address, status_address, prev_address}
use Rattle.call_stages.specs.Kinds.{Told}
use Rattle.data_list.specs.declared.target.Next.{Next}
use Rattle.data_list.specs.declared.target.Sighting.{Sighting}
use Rattle.data_list.specs.declared.target.Target.{Target}
use Rattle.data_list.specs.declared.target.Walked.{Walked}
use Rattle.data_list.specs.declared.target.Walked.TheVariants as walked
use Rattle.data_list.specs.declared.walk.Walk.{Walk}
use Rattle.data_list.specs.declared.walk.WalkAt.{WalkAt}
use Rattle.data_list.specs.declared.walk.WalkAt.TheVariants as at
use Rattle.data_list.specs.Keys.{name_kept}

abbrev pub walk_from : Layout → ℕ → ℕ → List ℕ → Walk
walk_from layout generation hint key = record {
  layout = layout;
  generation = generation;
  key = key;
  node = hint;
  hops = 0;
  at = at.Version;
}

abbrev pub walk_at_asks : Layout → ℕ → WalkAt → Action
walk_at_asks l n at.Version = Load (version_address l n)
walk_at_asks l n (at.Status version) = Load (status_address l n)
walk_at_asks l n (at.First version) = Load (word_address l n anchor_offset)
walk_at_asks l n (at.Second version first) = Load (word_address l n (anchor_offset + 1))
walk_at_asks l n (at.Third version first second) = Load (word_address l n (anchor_offset + 2))
walk_at_asks l n (at.Next version low) = Load (word_address l n next_offset)
walk_at_asks l n (at.HighFirst version low next) = Load (word_address l next anchor_offset)
walk_at_asks l n (at.HighSecond version low next first) = Load (word_address l next (anchor_offset + 1))
walk_at_asks l n (at.HighThird version low next first second) = Load (word_address l next (anchor_offset + 2))
walk_at_asks l n at.Prev = Load (prev_address l n)

abbrev pub walk_asks : Walk → Action
walk_asks walk = walk_at_asks walk.layout walk.node walk.at

-- it goes on there
abbrev pub loads_at : Walk → WalkAt → Turn Walk Walked
loads_at walk at = Go (record walk { at = at })

-- the node of this number; node 0 where there is none, or where the walk is at that node already
abbrev pub landing : Walk → ℕ → ℕ
landing walk number =
    if number == walk.node then 0 else (if nat_lt number walk.layout.nodes then number else 0)

-- it goes on there
abbrev pub hops_to : Walk → ℕ → Turn Walk Walked
hops_to walk node =
    if nat_lt (walk.hops + 1) (2 * walk.layout.nodes)
    then Go (record walk {
      node = landing walk node;
      hops = walk.hops + 1;
      at = at.Version;
    })
    else Done (walked.Again (Hops (walk.hops + 1)))

abbrev pub saw_version : Walk → ℕ → Turn Walk Walked
saw_version walk word =
    if is_free_word word walk.generation then loads_at walk (at.Status word)
    else Done (walked.Again (Locked walk.node word))

abbrev pub saw_status : Walk → ℕ → ℕ → Turn Walk Walked
saw_status walk version status =
    if status == live_status then loads_at walk (at.First version)
    else (if status == gone_status then loads_at walk at.Prev else hops_to walk 0)

abbrev pub saw_anchor : Walk → ℕ → List ℕ → Turn Walk Walked
saw_anchor walk version low =
    if nat_lt (number_of walk.key) (number_of low) then loads_at walk at.Prev else loads_at walk (at.Next version low)

-- the first name past the range of a node that leads there
abbrev pub high_of : Option Next → Option (List ℕ)
high_of None = None
high_of (Some next) = name_kept next.anchor

-- the node that it is at, as a target
abbrev pub target_at : Walk → ℕ → List ℕ → Option Next → Target
target_at walk version low next = record {
  node = walk.node;
  version = version;
  low = low;
  high = high_of next;
  hops = walk.hops;
  next = next;
}

-- that is its target
abbrev pub target : Walk → ℕ → List ℕ → Option Next → Turn Walk Walked
target walk version low next = Done (walked.Target (target_at walk version low next))

-- what it loaded of its target
abbrev pub sighting_of : Target → Sighting
sighting_of target = record { version = target.version; low = target.low; next = target.next }

abbrev pub saw_next : Walk → ℕ → List ℕ → ℕ → Turn Walk Walked
saw_next walk version low next =
    if next == 0 then target walk version low None
    else (if nat_lt next walk.layout.nodes then loads_at walk (at.HighFirst version low next) else hops_to walk 0)

abbrev pub saw_high : Walk → ℕ → List ℕ → ℕ → List ℕ → Turn Walk Walked
saw_high walk version low next high =
    if nat_lt (number_of walk.key) (number_of high) then target walk version low (Some (record {
      node = next;
      anchor = high;
    })) else hops_to walk next

abbrev pub walk_at_turned : Walk → WalkAt → ℕ → Turn Walk Walked
walk_at_turned walk at.Version got = saw_version walk got
walk_at_turned walk (at.Status version) got = saw_status walk version got
walk_at_turned walk (at.First version) got = loads_at walk (at.Second version got)
walk_at_turned walk (at.Second version first) got = loads_at walk (at.Third version first got)
walk_at_turned walk (at.Third version first second) got = saw_anchor walk version (first ∷ second ∷ got ∷ [])
walk_at_turned walk (at.Next version low) got = saw_next walk version low got
walk_at_turned walk (at.HighFirst version low next) got = loads_at walk (at.HighSecond version low next got)
walk_at_turned walk (at.HighSecond version low next first) got = loads_at walk (at.HighThird version low next first got)
walk_at_turned walk (at.HighThird version low next first second) got =
    saw_high walk version low next (first ∷ second ∷ got ∷ [])
walk_at_turned walk at.Prev got = hops_to walk got

abbrev pub walk_turned : Walk → ℕ → Turn Walk Walked
walk_turned walk got = walk_at_turned walk walk.at got

-- the key is at least the anchor
abbrev pub IsAbove : List ℕ → List ℕ → Type 0
IsAbove key low = number_of low ≤ number_of key

-- the next node is one of the layout's, and isn't node 0
pub record LeadsOn (l : Layout) (next : ℕ) : Type 0 where
  pub some : next ≢ 0
  pub within : next < l.nodes

-- the version word was free
pub record WasFree (g version : ℕ) : Type 0 where
  pub known : generation_of version ≤ g
  pub free : IsFree version g

abbrev pub IsWalkAt : Layout → ℕ → List ℕ → WalkAt → Type 0
IsWalkAt l g key at.Version = Unit {0}
IsWalkAt l g key (at.Status version) = WasFree g version
IsWalkAt l g key (at.First version) = WasFree g version
IsWalkAt l g key (at.Second version first) = WasFree g version
IsWalkAt l g key (at.Third version first second) = WasFree g version
IsWalkAt l g key (at.Next version low) = WasFree g version × IsAbove key low
IsWalkAt l g key (at.HighFirst version low next) = WasFree g version × IsAbove key low × LeadsOn l next
IsWalkAt l g key (at.HighSecond version low next first) = WasFree g version × IsAbove key low × LeadsOn l next
IsWalkAt l g key (at.HighThird version low next first second) = WasFree g version × IsAbove key low × LeadsOn l next
IsWalkAt l g key at.Prev = Unit {0}

-- node 0 was LIVE and has the anchor zero, so it doesn't go back from there
abbrev pub KnowsFirst : ℕ → WalkAt → Type 0
KnowsFirst n (at.Second version first) = n ≡ 0 → first ≡ 0
KnowsFirst n (at.Third version first second) = n ≡ 0 → (first ≡ 0) × (second ≡ 0)
KnowsFirst n at.Prev = n ≢ 0
KnowsFirst n _ = Unit {0}

-- what its fields keep
pub record IsWalk (walk : Walk) : Type 0 where
  pub layout : IsLayout walk.layout
  pub node : walk.node < walk.layout.nodes
  pub hops : walk.hops < 2 * walk.layout.nodes
  pub here : IsWalkAt walk.layout walk.generation walk.key walk.at
  pub first : KnowsFirst walk.node walk.at

abbrev pub walk_takes : Walk → ℕ → Type 0
walk_takes walk got = IsWalk walk × Told walk.layout walk.generation (walk_asks walk) got

-- how many loads it makes at a node at most from here on
abbrev pub walk_at_left : WalkAt → ℕ
walk_at_left at.Version = 10
walk_at_left (at.Status version) = 9
walk_at_left (at.First version) = 8
walk_at_left (at.Second version first) = 7
walk_at_left (at.Third version first second) = 6
walk_at_left (at.Next version low) = 5
walk_at_left (at.HighFirst version low next) = 4
walk_at_left (at.HighSecond version low next first) = 3
walk_at_left (at.HighThird version low next first second) = 2
walk_at_left at.Prev = 1

abbrev pub walk_left : Walk → ℕ
walk_left walk = 10 * (2 * walk.layout.nodes - (walk.hops + 1)) + walk_at_left walk.at
