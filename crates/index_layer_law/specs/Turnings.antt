-- What the law of turns knows of an index, and what the walks of its turns rely on.
use Rattle.std.specs.Prelude.{◌≡◌, ◌≢◌, ℕ, ◌+◌, ◌*◌, ◌<◌, ◌≤◌, ◌==◌, ◌||◌, Bool, true, false, List, [], ◌∷◌}
use mathlib.Core.Option.{some}
use lib.ListN.{get_elem?}
use Rattle.pm_words.specs.declared.layout.Layout.{Layout}
use Rattle.pm_words.specs.Offsets.{next_offset}
use Rattle.version_lock.specs.Versions.{generation_of, IsFree}
use Rattle.data_node.specs.Lists.{ListNode}
use Rattle.call_stages.specs.Stages.{Sight}
use Rattle.call_stages.specs.Lines.{HeldLine}
use Rattle.call_stages.specs.Watches.{Watching, Nothing, Watches, IsSeenAs}
use Rattle.index_law.specs.Facts.{Facts}
use Rattle.index_law.specs.Worlds.{World, facts}
use Rattle.index_law.specs.Lawful.{Stands}
use Rattle.layer_map.specs.Keys.{key_number}
use Rattle.updater_row_law.specs.Columns.{RowTerms, Ghosts}
use Rattle.updater_row_law.specs.RowStages.{RowTarget, Resting}
use Rattle.updater_row_law.specs.Turnings.{Turning}

abbrev pub terms_of : World → Turning → RowTerms
terms_of w t = record { layout = w.layout; generation = w.generation; stamp = t.stamp; release = t.release }

-- All turns but that of the party i rest.
abbrev pub AreRestingBut : List Turning → ℕ → Type 0
AreRestingBut turns i = (j : ℕ) (t : Turning) → get_elem? turns j ≡ some t → j ≢ i → t.stage ≡ Resting

-- All turns rest.
abbrev pub AreResting : List Turning → Type 0
AreResting turns = (i : ℕ) (t : Turning) → get_elem? turns i ≡ some t → t.stage ≡ Resting

-- Whether a node stands behind node 0 in the list, or is node 0.
abbrev pub is_member : List ListNode → ℕ → Bool
is_member [] n = false
is_member (m ∷ behind) n = n == m.node || is_member behind n

abbrev pub is_listed : Facts → ℕ → Bool
is_listed f n = n == 0 || is_member f.list n

-- The holders of nodes are told beside the words.
abbrev pub ghosts_of : World → (ℕ → ℕ) → Ghosts
ghosts_of w holder = record { listed = is_listed (facts w); holder = holder }

-- The number of a log line among those of all callers.
abbrev pub line_number : HeldLine → ℕ
line_number e = 8 * e.caller + e.number

-- What a walk of a turn relies on: as long as the version word that it loaded stands, what it saw holds. It reads that
-- version word, which never falls.
pub record SureWatches (l : Layout) (g : ℕ) (f : Facts) (n version : ℕ) (k : Sight) : Type 0 where
  pub here : n < l.nodes
  pub known : generation_of version ≤ g
  pub free : IsFree version g
  pub seen : version ≤ f.version n
  pub leads : k.live ≡ true → f.now n next_offset < l.nodes
  pub stands : f.version n ≡ version → Stands f n k

abbrev pub SureWatch : Layout → ℕ → Facts → Watching → Type 0
SureWatch l g f Nothing = Unit {0}
SureWatch l g f (Watches n version k) = SureWatches l g f n version k

-- What its target was seen to be still holds, as long as its version word stands.
pub record IsShown (l : Layout) (g : ℕ) (f : Facts) (key : List ℕ) (target : RowTarget) : Type 0 where
  pub sight : Sight
  pub sure : SureWatches l g f target.node target.version sight
  pub seen : IsSeenAs (key_number key) target.low sight
