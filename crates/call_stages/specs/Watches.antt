-- What a walk relies on that takes no lock, and the loads by which it comes to rely on it. What such a load says of a
-- node's words it says of any words, so that no machine need know of the index.
use Rattle.std.specs.Prelude.{◌≡◌, ◌≢◌, ℕ, ◌+◌, ◌<◌, ◌≤◌, true, List, slice_index}
use Rattle.pm_words.specs.Codes.{live_status}
use Rattle.pm_words.specs.declared.action.Action.{Action}
use Rattle.pm_words.specs.declared.action.Action.TheVariants.{Load}
use Rattle.pm_words.specs.declared.layout.Layout.{Layout}
use Rattle.pm_words.specs.Offsets.{next_offset, anchor_offset}
use Rattle.version_lock.specs.Versions.{IsFree}
use Rattle.data_node.specs.Spots.{Spot}
use Rattle.data_node.specs.Lists.{IsBetween}
use Rattle.call_stages.specs.Stages.{Sight, Sees, no_sight}
use Rattle.call_stages.specs.Kinds.{HasWordAt, word_address, version_address, status_address}

-- Of a node whose version word it loaded, that word, and what it saw since. It stands while that version word does.
pub data Watching : Type 0 where
  Nothing : Watching
  Watches : ℕ → ℕ → Sight → Watching  -- the node, its version word, and the sight

-- From what it relies on, by a load that gives x, to what it relies on then.
pub data Watch (l : Layout) (g : ℕ) : Watching → Action → ℕ → Watching → Type 0 where
  -- it loads a free version word, whether or not a lock can be taken from it, and has seen nothing of that node yet
  begins : {w : Watching} {n x : ℕ} → n < l.nodes → IsFree x g →
      Watch l g w (Load (version_address l n)) x (Watches n x no_sight)
  -- the node is in use: if its version word stands, it is listed
  finds_live : {n v x : ℕ} {k : Sight} → n < l.nodes → x ≡ live_status →
      Watch l g (Watches n v k) (Load (status_address l n)) x (Watches n v (record k { live = true }))
  -- it loads a word of the node
  watches : {n v x offset : ℕ} {k k' : Sight} → HasWordAt l n offset → 0 < offset → k'.live ≡ k.live →
      k'.next ≡ k.next →
      ((s t : Spot) → Sees k s t → s offset ≡ x → Sees k' s t) →
      Watch l g (Watches n v k) (Load (word_address l n offset)) x (Watches n v k')
  -- it loads an anchor word of the node that the listed node leads to
  watches_next : {n v m x offset : ℕ} {k k' : Sight} → HasWordAt l m offset → anchor_offset ≤ offset →
      offset ≤ anchor_offset + 2 → m ≢ 0 →
      k.live ≡ true → k'.live ≡ true → k'.next ≡ m →
      ((s t : Spot) → Sees k s t → s next_offset ≡ m) → ((s t : Spot) → Sees k s t → t offset ≡ x → Sees k' s t) →
      Watch l g (Watches n v k) (Load (word_address l m offset)) x (Watches n v k')
  -- it relies on nothing that it saw
  lets_go : {w : Watching} {a : Action} {x : ℕ} → Watch l g w a x Nothing

-- What was seen of a node says that the key belongs there, and that these are the words of its anchor.
pub record IsSeenAs (key : ℕ) (anchor : List ℕ) (k : Sight) : Type 0 where
  pub live : k.live ≡ true
  pub between : (s t : Spot) → Sees k s t → IsBetween s t key
  pub low : (s t : Spot) → Sees k s t → (i : ℕ) → i < 3 → s (anchor_offset + i) ≡ slice_index anchor i
