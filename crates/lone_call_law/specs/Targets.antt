-- The target of a walk in any lawful index in which the version word stands that the walk saw.
use Rattle.std.specs.Prelude.{◌≡◌, ℕ, ◌<◌, ◌≤◌, ◌↔◌, true, List, Option, Some, None, IfSome}
use mathlib.Core.Option.{some}
use lib.ListN.{get_elem?}
use Rattle.pm_words.specs.Codes.{live_status}
use Rattle.pm_words.specs.declared.layout.Layout.{Layout}
use Rattle.pm_words.specs.Offsets.{next_offset}
use Rattle.cat_key.specs.Names.{IsName}
use Rattle.data_node.specs.Lists.{target_from, key_of, anchor_in, number_of}
use Rattle.call_stages.specs.Stages.{Saw}
use Rattle.data_list.specs.declared.target.Next.{Next}
use Rattle.data_list.specs.declared.target.Target.{Target}
use Rattle.data_list.specs.Walks.{sighting_of}
use Rattle.data_list.specs.WalkStages.{sight_in}
use Rattle.data_list.specs.Laws.{IsTarget}
use Rattle.index_law.specs.Facts.{Facts, range_of, IsListed}
use Rattle.index_law.specs.Worlds.{Party, World, facts}
use Rattle.index_law.specs.Lawful.{Lawful}

-- The node n leads to none; or to this one, which is listed, and whose anchor is this name.
abbrev pub LeadsTo : Facts → ℕ → Option Next → Option (List ℕ) → Type 0
LeadsTo f n None high = (f.now n next_offset ≡ 0) × (high ≡ None)
LeadsTo f n (Some next) high =
    (f.now n next_offset ≡ next.node) × IsListed f next.node ×
    ((name : List ℕ) × IsName name × (high ≡ Some name) × (anchor_in (f.now next.node) ≡ key_of name))

-- The target is listed with the bounds that its walk told: the key lies in its range, which is all names from low on,
-- up to high if there is a next node.
pub record IsListedSo (l : Layout) (f : Facts) (key : ℕ) (target : Target) : Type 0 where
  pub listed : IsListed f target.node
  pub live : f.status target.node ≡ live_status
  pub chosen : target_from 0 f.list key ≡ target.node
  pub low : anchor_in (f.now target.node) ≡ number_of target.low
  pub next : LeadsTo f target.node target.next target.high
  pub range : (name : List ℕ) → range_of l f target.node name ≡ true ↔
      ((number_of target.low ≤ key_of name) × IfSome target.high (λ high. key_of name < key_of high))

-- The party i has come to this target, from which it may take the lock. As long as the version word stands that its
-- walk saw, however many steps other parties have made, the target is listed so.
abbrev pub TargetStands : Type 0
TargetStands = (w : World) (i : ℕ) (p : Party) (key : List ℕ) (target : Target) (lock : ℕ) → Lawful w →
    get_elem? w.parties i ≡ some p →
    IsTarget w.layout w.generation key target →
    p.stage ≡ Saw target.node target.version lock (sight_in (sighting_of target)) →
    (facts w).version target.node ≡ target.version → IsListedSo w.layout (facts w) (number_of key) target
