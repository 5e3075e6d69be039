-- The merge of a node's right neighbour into it, step by step.
use Rattle.std.specs.Prelude.{◌≡◌, ◌≢◌, ℕ, ◌+◌, ◌-◌, ◌/◌, ◌^◌, ◌<◌, ◌≤◌, ◌==◌, ◌&&◌, nat_lt, true, false, if◌then◌else◌}
use Rattle.std.specs.Prelude.{List, length, slice_index, slice_set, replicate}
use Rattle.pm_words.specs.declared.action.Action.{Action}
use Rattle.pm_words.specs.declared.action.Action.TheVariants.{Load, Store, Exchange}
use Rattle.pm_words.specs.declared.machine.Turn.{Turn}
use Rattle.pm_words.specs.declared.machine.Turn.TheVariants.{Go, Done}
use Rattle.pm_words.specs.Offsets.{bitmap_offset, next_offset}
use Rattle.version_lock.specs.Versions.{IsLockWord, is_free_word, is_worn_word}
use Rattle.data_node.specs.Bits.{live_count}
use Rattle.call_stages.specs.declared.view.View.{View}
use Rattle.call_stages.specs.Views.{IsView}
use Rattle.call_stages.specs.Kinds.{word_address, version_address, Told}
use Rattle.pm_alloc.specs.Claims.{lock_of, Locks}
use Rattle.smo_log.specs.Opens.{open_from}
use Rattle.split_merge.specs.declared.uniting.Union.{Union}
use Rattle.split_merge.specs.declared.joining.Join.{Join}
use Rattle.split_merge.specs.declared.joining.JoinAt.TheVariants as join
use Rattle.split_merge.specs.declared.merging.Near.{Near}
use Rattle.split_merge.specs.declared.merging.Merge.{Merge}
use Rattle.split_merge.specs.declared.merging.MergeAt.{MergeAt}
use Rattle.split_merge.specs.declared.merging.MergeAt.TheVariants as at
use Rattle.split_merge.specs.declared.merging.Merged.{Merged}
use Rattle.split_merge.specs.Pairs.{pairs_of}
use Rattle.split_merge.specs.Unions.{entry_in, AreFew}
use Rattle.split_merge.specs.Splits.{IsOwnLine}
use Rattle.split_merge.specs.Joins.{IsJoin, join_asks, join_turned, join_left}

abbrev pub merge_from : View → ℕ → ℕ → ℕ → Merge
merge_from view node word line = record { view = view; node = node; word = word; line = line; at = at.Bitmap }

-- how many words of its fingerprints it loads
abbrev pub prints_count : View → ℕ
prints_count view = (view.layout.slots / 2 - 1) / 8 + 1

abbrev pub after_next : Near → MergeAt
after_next near = if near.right == 0 then at.Leave near else at.Version near

abbrev pub saw_version : Merge → Near → ℕ → MergeAt
saw_version merge near version =
    if is_free_word version merge.view.generation
    then (if is_worn_word version merge.view.generation then at.Leave near else at.Lock near version
    (lock_of version merge.view.generation))
    else at.Leave near

-- the neighbour's words of which none is loaded
abbrev pub no_head : List ℕ
no_head = replicate 16 0

abbrev pub finds : Near → ℕ → ℕ → ℕ → MergeAt
finds near version locked word = if word == version then at.Head near locked no_head bitmap_offset else at.Leave near

-- with this bitmap of the neighbour both have too many names
abbrev pub crowded : Merge → Near → ℕ → ℕ
crowded merge near bitmap =
    live_count merge.view.layout.slots near.own + live_count merge.view.layout.slots bitmap

abbrev pub next_head : Near → ℕ → List ℕ → ℕ → MergeAt
next_head near locked head count =
    if nat_lt (count + 1) 16 then at.Head near locked head (count + 1) else at.Prints near locked head (replicate 4 0) 0

abbrev pub has_head : Merge → Near → ℕ → List ℕ → ℕ → ℕ → MergeAt
has_head merge near locked head count word =
    if (count == 1) && nat_lt (merge.view.layout.slots / 2) (crowded merge near word) then at.Part near locked word
    else next_head near locked (slice_set head count word) count

-- what it is to do, where these are the words of both nodes
abbrev pub union_of : Merge → Near → ℕ → List ℕ → List ℕ → Union
union_of merge near locked head prints = record {
  layout = merge.view.layout;
  node = merge.node;
  locked = merge.word;
  right = near.right;
  right_locked = locked;
  line = merge.line;
  own = near.own;
  prints = prints;
  head = head;
  pairs = pairs_of near.own (slice_index head 1) merge.view.layout.slots;
}

abbrev pub join_from : Union → Join
join_from union = record { union = union; at = join.Open (open_from union.layout union.line (entry_in union)) }

abbrev pub next_prints : Merge → Near → ℕ → List ℕ → List ℕ → ℕ → MergeAt
next_prints merge near locked head prints count =
    if nat_lt count (prints_count merge.view) then at.Prints near locked head prints count else at.Join
    (join_from (union_of merge near locked head prints))

abbrev pub has_prints : Merge → Near → ℕ → List ℕ → List ℕ → ℕ → ℕ → MergeAt
has_prints merge near locked head prints count word =
    next_prints merge near locked head (slice_set prints count word) (count + 1)

abbrev pub merge_at_asks : Merge → MergeAt → Action
merge_at_asks merge at.Bitmap = Load (word_address merge.view.layout merge.node bitmap_offset)
merge_at_asks merge (at.Next own) = Load (word_address merge.view.layout merge.node next_offset)
merge_at_asks merge (at.Version near) = Load (version_address merge.view.layout near.right)
merge_at_asks merge (at.Lock near version locked) =
    Exchange (version_address merge.view.layout near.right) version locked
merge_at_asks merge (at.Head near locked head count) = Load (word_address merge.view.layout near.right count)
merge_at_asks merge (at.Prints near locked head prints count) =
    Load (word_address merge.view.layout merge.node (8 + count))
merge_at_asks merge (at.Join joining) = join_asks joining
merge_at_asks merge (at.Part near locked bitmap) = Store (version_address merge.view.layout near.right) (locked + 1)
merge_at_asks merge (at.Leave near) = Store (version_address merge.view.layout merge.node) (merge.word + 1)

abbrev pub merge_asks : Merge → Action
merge_asks merge = merge_at_asks merge merge.at

-- it goes on there
abbrev pub merges_on : Merge → MergeAt → Turn Merge Merged
merges_on merge at = Go (record merge { at = at })

abbrev pub joined : Merge → Turn Join (Unit {0}) → Turn Merge Merged
joined merge (Go joining) = merges_on merge (at.Join joining)
joined merge (Done nothing) = Done (record { merged = true })

abbrev pub merge_at_turned : Merge → MergeAt → ℕ → Turn Merge Merged
merge_at_turned merge at.Bitmap got = merges_on merge (at.Next got)
merge_at_turned merge (at.Next own) got = merges_on merge (after_next (record { own = own; right = got }))
merge_at_turned merge (at.Version near) got = merges_on merge (saw_version merge near got)
merge_at_turned merge (at.Lock near version locked) got = merges_on merge (finds near version locked got)
merge_at_turned merge (at.Head near locked head count) got =
    merges_on merge (has_head merge near locked head count got)
merge_at_turned merge (at.Prints near locked head prints count) got =
    merges_on merge (has_prints merge near locked head prints count got)
merge_at_turned merge (at.Join joining) got = joined merge (join_turned joining got)
merge_at_turned merge (at.Part near locked bitmap) got = merges_on merge (at.Leave near)
merge_at_turned merge (at.Leave near) got = Done (record { merged = false })

abbrev pub merge_turned : Merge → ℕ → Turn Merge Merged
merge_turned merge got = merge_at_turned merge merge.at got

-- what is loaded of the node: it leads to one of the layout's, if to any
pub record IsNear (view : View) (near : Near) : Type 0 where
  pub own : near.own < 2 ^ 64
  pub right : near.right < view.layout.nodes

-- and the neighbour is held, by this word
pub record IsBeside (view : View) (near : Near) (locked : ℕ) : Type 0 where
  pub leads : IsNear view near
  pub some : near.right ≢ 0
  pub lock : IsLockWord locked

-- words of a row of so many
pub record AreWordsOf (most : ℕ) (words : List ℕ) : Type 0 where
  pub size : length words ≡ most
  pub fits : (offset : ℕ) → slice_index words offset < 2 ^ 64

-- the neighbour's words, so many of which are loaded: both nodes have few names, and it leads to a node
pub record AreHead (view : View) (near : Near) (head : List ℕ) (count : ℕ) : Type 0 where
  pub words : AreWordsOf 16 head
  pub few : 1 < count → AreFew view.layout.slots near.own (slice_index head 1)
  pub behind : slice_index head 2 < view.layout.nodes

-- all that it has of both nodes as it loads the fingerprints
pub record AreHeld (merge : Merge) (near : Near) (locked : ℕ) (head prints : List ℕ) (count : ℕ) : Type 0 where
  pub view : IsView merge.view
  pub node : merge.node < merge.view.layout.nodes
  pub word : IsLockWord merge.word
  pub line : IsOwnLine merge.view merge.line
  pub beside : IsBeside merge.view near locked
  pub heads : AreHead merge.view near head 16
  pub words : AreWordsOf 4 prints
  pub within : count < prints_count merge.view

-- the merge is one of this node, with this line
pub record IsUnionOf (view : View) (node word line : ℕ) (union : Union) : Type 0 where
  pub layout : union.layout ≡ view.layout
  pub node_is : union.node ≡ node
  pub locked : union.locked ≡ word
  pub line_is : union.line ≡ line

abbrev pub IsMergeAt : View → ℕ → ℕ → ℕ → MergeAt → Type 0
IsMergeAt view node word line at.Bitmap = Unit {0}
IsMergeAt view node word line (at.Next own) = own < 2 ^ 64
IsMergeAt view node word line (at.Version near) = IsNear view near × (near.right ≢ 0)
IsMergeAt view node word line (at.Lock near version locked) =
    IsNear view near × (near.right ≢ 0) × Locks view.generation version locked
IsMergeAt view node word line (at.Head near locked head count) =
    IsBeside view near locked × AreHead view near head count × (1 ≤ count) × (count < 16)
IsMergeAt view node word line (at.Prints near locked head prints count) =
    IsBeside view near locked × AreHead view near head 16 × AreWordsOf 4 prints × (count < prints_count view)
IsMergeAt view node word line (at.Join joining) = IsJoin joining × IsUnionOf view node word line joining.union
IsMergeAt view node word line (at.Part near locked bitmap) = IsBeside view near locked
IsMergeAt view node word line (at.Leave near) = Unit {0}

-- what its fields keep
pub record IsMerge (merge : Merge) : Type 0 where
  pub view : IsView merge.view
  pub node : merge.node < merge.view.layout.nodes
  pub lock : IsLockWord merge.word
  pub line : IsOwnLine merge.view merge.line
  pub here : IsMergeAt merge.view merge.node merge.word merge.line merge.at

-- the node and its neighbour lead to the layout's nodes
abbrev pub LeadsNear : Merge → MergeAt → ℕ → Type 0
LeadsNear merge (at.Next own) word = word < merge.view.layout.nodes
LeadsNear merge (at.Head near locked head count) word = count ≡ 2 → word < merge.view.layout.nodes
LeadsNear merge _ word = Unit {0}

abbrev pub merge_takes : Merge → ℕ → Type 0
merge_takes merge word = IsMerge merge × Told merge.view.layout merge.view.generation (merge_asks merge) word ×
    LeadsNear merge merge.at word

-- how many actions it makes at most from here on
abbrev pub merge_at_left : Merge → MergeAt → ℕ
merge_at_left merge at.Bitmap = 30006
merge_at_left merge (at.Next own) = 30005
merge_at_left merge (at.Version near) = 30004
merge_at_left merge (at.Lock near version locked) = 30003
merge_at_left merge (at.Head near locked head count) = 30000 - count
merge_at_left merge (at.Prints near locked head prints count) = 20000 - count
merge_at_left merge (at.Join joining) = 2 + join_left joining
merge_at_left merge (at.Part near locked bitmap) = 2
merge_at_left merge (at.Leave near) = 1

abbrev pub merge_left : Merge → ℕ
merge_left merge = merge_at_left merge merge.at
