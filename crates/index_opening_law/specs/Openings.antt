-- The words of a recovered image as those of an index: what its volatile words tell, and what it keeps then.
use Rattle.std.specs.Prelude.{◌≡◌, ℕ, ◌<◌, ◌≤◌, List, [], ◌∷◌, Option}
use mathlib.Core.Option.{some}
use lib.ListN.{get_elem?}
use Rattle.pm_words.specs.Codes.{free_status, live_status, gone_status, no_permutation, untaken_lock}
use Rattle.pm_words.specs.declared.layout.Layout.{Layout}
use Rattle.pm_words.specs.Locations.{Header, Cached, Durable, Volatile, Clock, Updater, at}
use Rattle.pm_words.specs.Rows.{IsRow}
use Rattle.pm_words.specs.Offsets.{status_offset, prev_offset, stamp_offset, permutation_version_offset}
use Rattle.pm_words.specs.Offsets.{generation_offset}
use Rattle.cat_history.specs.Maps.{Map}
use Rattle.data_node.specs.Lists.{ListNode, IsIn, IsMember}
use Rattle.call_stages.specs.Stages.{Idle}
use Rattle.call_stages.specs.Lines.{HeldLine}
use Rattle.call_stages.specs.Prevs.{Debt}
use Rattle.index_law.specs.Facts.{list_in}
use Rattle.index_law.specs.Worlds.{Party, World, facts}
use Rattle.index_law.specs.Lawful.{Each}
use Rattle.index_law.specs.Laws.{IsAtRest}
use Rattle.index_law.specs.Footed.{AreFree, IsFooted}
use Rattle.image_recovery_law.specs.updater_row_law.specs.Turnings.{Turning}
use Rattle.index_layer_law.specs.Laws as layer
use Rattle.index_layer_law.specs.Layers.{IsLayered}
use Rattle.image_recovery_law.specs.Columns.{Columns, IsMapOf}
use Rattle.image_recovery_law.specs.Rest.{Rests, IsUntaken}
use Rattle.image_recovery_law.specs.Rows.{columns_in}
use Rattle.image_recovery_law.specs.RowMoves.{MarksTellIn}

-- Behind the node `here` the prev of each node of the list is the node before it.
abbrev pub LeadBack : (ℕ → ℕ) → ℕ → List ListNode → Type 0
LeadBack prev here [] = Unit {0}
LeadBack prev here (m ∷ behind) = (prev m.node ≡ here) × LeadBack prev m.node behind

-- The volatile words tell this list: its nodes are LIVE and the others FREE, and prevs lead back along it. No node has
-- a stamp, the clock stands at 0, and nobody has the updater's lock.
pub record TellsList (l : Layout) (list : List ListNode) (words : List ℕ) : Type 0 where
  pub live : (n : ℕ) → IsIn list n → at l words (Volatile n status_offset) ≡ live_status
  pub free : (n : ℕ) → n < l.nodes → (IsIn list n → ⊥) → at l words (Volatile n status_offset) ≡ free_status
  pub back : LeadBack (λ n. at l words (Volatile n prev_offset)) 0 list
  pub none : (n : ℕ) → n < l.nodes → (IsMember list n → ⊥) → at l words (Volatile n prev_offset) ≡ 0
  pub stamps : (n : ℕ) → n < l.nodes → at l words (Volatile n stamp_offset) ≡ 0
  pub clock : at l words Clock ≡ 0
  pub updater : at l words Updater ≡ untaken_lock

-- No node has a permutation, listed or not.
abbrev pub HaveNoOrders : Layout → List ℕ → Type 0
HaveNoOrders l words = (n : ℕ) → n < l.nodes → at l words (Volatile n permutation_version_offset) ≡ no_permutation

-- The words are those of a recovered image that keeps this map, over this list. Their volatile ones tell the list, what
-- the layer's root leads to, and of each node that it has no permutation.
pub record IsOpening (l : Layout) (list : List ListNode) (o : Columns) (words : List ℕ) (m : Map) : Type 0 where
  pub row : IsRow l words
  pub rests : Rests l list o (columns_in l words Cached) (columns_in l words Durable)
  pub marks : MarksTellIn l words
  pub keeps : IsMapOf l list (columns_in l words Cached) m
  pub tells : TellsList l list words
  pub orders : HaveNoOrders l words

-- The index on such words, with this map as its base, in the run of the header.
abbrev pub opened_world : Layout → List ℕ → List Party → Map → World
opened_world l words parties m = record {
  layout = l;
  generation = at l words (Cached (Header generation_offset));
  words = words;
  parties = parties;
  base = m;
  history = [];
}

-- With idle parties it is at rest,
abbrev pub OpeningIsAtRest : Type 0
OpeningIsAtRest = (l : Layout) (list : List ListNode) (o : Columns) (words : List ℕ) (m : Map)
    (parties : List Party) → IsOpening l list o words m → Each (λ p. p.stage ≡ Idle) parties →
    Each (λ p. p.since ≤ 0) parties → IsAtRest (opened_world l words parties m)

-- and none of them has a log line or owes a prev,
abbrev pub OpeningIsFooted : Type 0
OpeningIsFooted = (l : Layout) (list : List ListNode) (o : Columns) (words : List ℕ) (m : Map)
    (parties : List Party) (lines : List (Option HeldLine)) (debts : List Debt) → IsOpening l list o words m →
    AreFree parties lines debts → Each (λ p. p.since ≤ 0) parties →
    IsFooted (record { world = opened_world l words parties m; lines = lines; debts = debts })

-- and it has its search layer.
abbrev pub OpeningIsLayered : Type 0
OpeningIsLayered = (l : Layout) (list : List ListNode) (o : Columns) (words : List ℕ) (m : Map)
    (parties : List Party) (lines : List (Option HeldLine)) (debts : List Debt) (turns : List Turning) (i : ℕ)
    (t : Turning) → IsOpening l list o words m → AreFree parties lines debts → Each (λ p. p.since ≤ 0) parties →
    ((j : ℕ) (u : Turning) → get_elem? turns j ≡ some u → layer.IsAtRest u) → get_elem? turns i ≡ some t →
    IsLayered (record {
      whole = record { world = opened_world l words parties m; lines = lines; debts = debts };
      turns = turns;
    })

-- Its list is that list.
abbrev pub OpeningHasList : Type 0
OpeningHasList = (l : Layout) (list : List ListNode) (o : Columns) (words : List ℕ) (m : Map) →
    IsOpening l list o words m → list_in l words ≡ list

-- In its run no node was locked yet, and none is GONE.
pub record IsUnlocked (w : World) : Type 0 where
  pub untaken : (n : ℕ) → n < w.layout.nodes → IsUntaken ((facts w).version n) w.generation
  pub not_gone : (n : ℕ) → n < w.layout.nodes → (facts w).status n ≡ gone_status → ⊥

abbrev pub OpeningIsUnlocked : Type 0
OpeningIsUnlocked = (l : Layout) (list : List ListNode) (o : Columns) (words : List ℕ) (m : Map)
    (parties : List Party) → IsOpening l list o words m → IsUnlocked (opened_world l words parties m)
