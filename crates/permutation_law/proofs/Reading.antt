-- What is read of a permutation stands while the node's version word does.
use Rattle.std.proofs.Common.{◌≡◌, ◌≢◌, ℕ, ◌<◌, ◌≤◌, ◌+◌, ◌^◌, ⊎_elim, List, slice_set, refl, sym, ◌∙◌, subst, arith}
use Rattle.std.proofs.lemmas.Bool.{cases_eq}
use mathlib.Core.Option.{some}
use lib.ListN.{get_elem?}
use Rattle.pm_words.specs.declared.layout.Layout.{Layout}
use Rattle.pm_words.specs.declared.action.Action.{Action}
use Rattle.pm_words.specs.Locations.{Volatile, address_of}
use Rattle.pm_words.specs.Rows.{acted}
use Rattle.pm_words.specs.Offsets.{permutation_version_offset}
use Rattle.version_lock.specs.Versions.{IsFree}
use Rattle.call_stages.specs.Stages.{Stage, Held, Holds, Tells}
use Rattle.permutation.specs.Sortings.{Sorting, Sorts, begins, stores, ends}
use Rattle.index_law.specs.Facts.{Facts}
use Rattle.index_law.specs.Worlds.{Party, facts, stepped}
use Rattle.index_law.specs.Lawful.{IsOwnLock, SureHolds, Sure}
use Rattle.permutation_law.specs.Permuted.{permutation_in, Permuted, IsPermuted}
use Rattle.permutation_law.specs.Laws.{HasRead, ReadingBegins, ReadingGoesOn, ReadingIsKept, SortsKeepReading, FramesKeepReading, ReadingServes}
use Rattle.permutation_law.proofs.Columns.{IsLeft, made_at-here, permutation_in-here}
use Rattle.permutation_law.proofs.Sorting.{else_left, store_facts}
use Rattle.permutation_law.proofs.Steps.{steps_leave}
use Rattle.index_law.proofs.Standing.{free_nodes_stand}
use Rattle.index_law.proofs.Versions.{unfree}

pub reading_begins : ReadingBegins
reading_begins l g f words caller index since n v k h sure got = record {
  here = sure.here;
  free = sure.free;
  loaded = sure.seen;
  stands = λ _. (made_at-here l words n sure.here ∙ got, tt);
}

pub reading_goes_on : ReadingGoesOn
reading_goes_on l g f words n v k x seen after read low told tells = record {
  here = read.here;
  free = read.free;
  loaded = read.loaded;
  stands = λ same. let was = read.stands same in (was.0, tells (permutation_in l words n) was.1 (permutation_in-here l words n k read.here low ∙ sym told));
}

-- it is kept where no version word falls, and the permutation of a node stays whose version word does
kept : (l : Layout) (g : ℕ) (f f' : Facts) (words words' : List ℕ) (n v : ℕ) (seen : List (ℕ × ℕ)) → f.version n ≤ f'.version n → (IsFree (f.version n) g → IsLeft l words words' n)
    → HasRead l g f words n v seen → HasRead l g f' words' n v seen
kept l g f f' words words' n v seen rises left read = record {
  here = read.here;
  free = read.free;
  loaded = let was = read.loaded in omega arith;
  stands = λ now.
      let was = read.loaded in
      let same : f.version n ≡ v = omega arith in
      let stays = left (subst (λ (u : ℕ). IsFree u g) (sym same) read.free) in
      let told = read.stands same in
      (stays.made ∙ told.0, subst (Tells seen) (sym stays.permutation) told.1);
}

pub reading_is_kept : ReadingIsKept
reading_is_kept z i p a x t r n v seen is there k spares told read =
    let w = z.world in
    kept w.layout w.generation (facts w) (facts (stepped w i p a t)) w.words (acted w.layout w.words a) n v seen
    (free_nodes_stand w i p a x t r is.lawful there k told n read.here).rises
    (λ _. steps_leave w i p a x t r is.lawful there k spares n) read

-- a store of a permutation by who holds its node
stored_kept : (z : Permuted) (i : ℕ) (p : Party) (m lock offset y : ℕ) (h : Held) (n v : ℕ) (seen : List (ℕ × ℕ)) → IsPermuted z → get_elem? z.world.parties i ≡ some p → p.stage ≡ Holds m lock h → m < z.world.layout.nodes
    → 2 < offset → offset < 16 → y < 2 ^ 64 → HasRead z.world.layout z.world.generation (facts z.world) z.world.words n v seen
    → HasRead z.world.layout z.world.generation (facts (record (z.world) { words = slice_set z.world.words (address_of z.world.layout (Volatile m offset)) y })) (slice_set z.world.words (address_of z.world.layout (Volatile m offset)) y) n v seen
stored_kept z i p m lock offset y h n v seen is there stage here least most fits read =
    let w = z.world in
    let l = w.layout in
    let f = facts w in
    let words' : List ℕ = slice_set w.words (address_of l (Volatile m offset)) y in
    let sure : SureHolds l w.generation f p.caller p.index p.since m lock h = subst (Sure l w.generation f p.caller p.index p.since) stage (is.lawful.sure i p there) in
    subst (λ (φ : Facts). HasRead l w.generation φ words' n v seen) (sym (store_facts w is.lawful m offset y here least most fits))
    (kept l w.generation f f w.words words' n v seen (omega arith)
    (λ free. ⊎_elim
    (λ (one : n ≡ m). absurd (unfree (f.version m) w.generation (subst (IsOwnLock w.generation) (sym sure.stands) sure.lock) (subst (λ (u : ℕ). IsFree (f.version u) w.generation) one free)))
    (λ (other : n ≢ m). else_left l w.words m offset y n here most other)
    (cases_eq n m))
    read)

sorted_kept : (z : Permuted) (i : ℕ) (p : Party) (a : Action) (s : Stage) (sorting after : Sorting) (n v : ℕ) (seen : List (ℕ × ℕ)) → IsPermuted z → get_elem? z.world.parties i ≡ some p → p.stage ≡ s
    → Sorts z.world.layout s sorting a after → HasRead z.world.layout z.world.generation (facts z.world) z.world.words n v seen
    → HasRead z.world.layout z.world.generation (facts (record (z.world) { words = acted z.world.layout z.world.words a })) (acted z.world.layout z.world.words a) n v seen
sorted_kept z i p a s sorting after n v seen is there stage (begins {n = m} {lock = lock} {k = k} {y = y} {h = h} here low fits tells) read =
    stored_kept z i p m lock (8 + k) y h n v seen is there stage here (omega arith) (omega arith) fits read
sorted_kept z i p a s sorting after n v seen is there stage (stores {n = m} {lock = lock} {k = k} {y = y} {h = h} here low fits tells) read =
    stored_kept z i p m lock (8 + k) y h n v seen is there stage here (omega arith) (omega arith) fits read
sorted_kept z i p a s sorting after n v seen is there stage (ends {n = m} {lock = lock} {version = y} {h = h} here next fits order) read =
    stored_kept z i p m lock permutation_version_offset y h n v seen is there stage here (omega arith) (omega arith) fits read

pub sorts_keep_reading : SortsKeepReading
sorts_keep_reading z i p a sorting after n v seen is there k read = sorted_kept z i p a p.stage sorting after n v seen is there refl k read

pub frames_keep_reading : FramesKeepReading
frames_keep_reading l g f f' words words' n v seen version made permutation read =
    kept l g f f' words words' n v seen (omega arith) (λ _. record { made = made; permutation = permutation }) read

pub reading_serves : ReadingServes
reading_serves z n v seen is read same =
    let told = read.stands same in
    record {
      tells = told.1;
      order = is.serves n read.here (subst (λ (u : ℕ). IsFree u z.world.generation) (sym same) read.free) (told.0 ∙ sym same);
    }
