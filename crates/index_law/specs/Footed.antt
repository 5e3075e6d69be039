-- What keeps all that parties have of log lines and prevs, beside their own steps: words that become durable, calls
-- that begin, parties with the same, a next round, stamps of nodes.
use Rattle.std.specs.Prelude.{◌≡◌, ℕ, ◌<◌, ◌≤◌, List, slice_set, Option, None}
use mathlib.Core.Option.{some}
use lib.ListN.{get_elem?}
use Rattle.pm_words.specs.declared.layout.Layout.{Layout}
use Rattle.pm_words.specs.Layouts.{IsLayout}
use Rattle.pm_words.specs.Locations.{Volatile, image_words, address_of}
use Rattle.pm_words.specs.Offsets.{stamp_offset}
use Rattle.call_stages.specs.Stages.{Idle}
use Rattle.call_stages.specs.Lines.{HeldLine}
use Rattle.call_stages.specs.Prevs.{Debt, no_debt}
use Rattle.index_law.specs.Worlds.{Party, started, evicted_world}
use Rattle.index_law.specs.Lawful.{Lawful, Each}
use Rattle.index_law.specs.Laws.{fresh_world, next_round}
use Rattle.index_law.specs.Whole.{Whole, IsWhole}
use Rattle.index_law.specs.Footings.{AreTended}

-- All that is kept of lines and prevs.
abbrev pub IsFooted : Whole → Type 0
IsFooted z = IsWhole z × AreTended z

-- The same parties, each with its caller and its stage.
pub record AreAlike (old new : List Party) : Type 0 where
  pub forth : (i : ℕ) (p : Party) → get_elem? old i ≡ some p →
      (q : Party) × (get_elem? new i ≡ some q) × (q.caller ≡ p.caller) × (q.stage ≡ p.stage)
  pub back : (i : ℕ) (q : Party) → get_elem? new i ≡ some q →
      (p : Party) × (get_elem? old i ≡ some p) × (q.caller ≡ p.caller) × (q.stage ≡ p.stage)

-- No party has a line, or owes anything, and each stands at its number.
pub record AreFree (parties : List Party) (held : List (Option HeldLine)) (owed : List Debt) : Type 0 where
  pub idle : Each (λ p. p.stage ≡ Idle) parties
  pub callers : (i : ℕ) (p : Party) → get_elem? parties i ≡ some p → p.caller ≡ i
  pub lines : (i : ℕ) (e : Option HeldLine) → get_elem? held i ≡ some e → e ≡ None
  pub debts : (i : ℕ) (d : Debt) → get_elem? owed i ≡ some d → d ≡ no_debt

-- A word of the image becomes durable,
abbrev pub evicted_whole : Whole → ℕ → Whole
evicted_whole z word = record z { world = evicted_world z.world word }

abbrev pub EvictIsFooted : Type 0
EvictIsFooted = (z : Whole) (word : ℕ) → IsFooted z → word < image_words z.world.layout →
    IsFooted (evicted_whole z word)

-- or a party that relies on nothing begins a call,
abbrev pub started_whole : Whole → ℕ → Party → ℕ → Whole
started_whole z i p index = record z { world = started z.world i p index }

abbrev pub StartIsFooted : Type 0
StartIsFooted = (z : Whole) (i : ℕ) (p : Party) (index : ℕ) → IsFooted z → get_elem? z.world.parties i ≡ some p →
    p.stage ≡ Idle → IsFooted (started_whole z i p index)

-- or parties are replaced by others with the same,
abbrev pub AlikeIsFooted : Type 0
AlikeIsFooted = (z : Whole) (parties : List Party) → IsFooted z → Lawful (record (z.world) { parties = parties }) →
    AreAlike z.world.parties parties → IsFooted (record z { world = record (z.world) { parties = parties } })

-- or with no call in flight by other idle ones,
abbrev pub RestIsFooted : Type 0
RestIsFooted = (z : Whole) (parties : List Party) (lines : List (Option HeldLine)) (debts : List Debt) → IsFooted z →
    AreFree z.world.parties z.lines z.debts → AreFree parties lines debts →
    Lawful (record (z.world) { parties = parties }) →
    IsFooted (record { world = record (z.world) { parties = parties }; lines = lines; debts = debts })

-- as the next round begins too,
abbrev pub RoundIsFooted : Type 0
RoundIsFooted = (z : Whole) (parties : List Party) (lines : List (Option HeldLine)) (debts : List Debt) → IsFooted z →
    AreFree z.world.parties z.lines z.debts → AreFree parties lines debts → Lawful (next_round z.world parties) →
    IsFooted (record { world = next_round z.world parties; lines = lines; debts = debts })

-- or a node gets another stamp.
abbrev pub StampIsFooted : Type 0
StampIsFooted = (z : Whole) (n : ℕ) → IsFooted z → n < z.world.layout.nodes →
    Lawful (record (z.world) {
      words = slice_set z.world.words (address_of z.world.layout (Volatile n stamp_offset)) 1;
    }) →
    IsFooted (record z {
      world = record (z.world) {
        words = slice_set z.world.words (address_of z.world.layout (Volatile n stamp_offset)) 1;
      };
    })

-- It begins with the row of a fresh image.
abbrev pub FreshIsFooted : Type 0
FreshIsFooted = (l : Layout) (parties : List Party) (lines : List (Option HeldLine)) (debts : List Debt) → IsLayout l →
    AreFree parties lines debts → Each (λ p. p.since ≤ 0) parties →
    IsFooted (record { world = fresh_world l parties; lines = lines; debts = debts })
