-- A merge goes on as one whose fields keep the same.
use Rattle.std.proofs.Common.{◌≡◌, ◌≢◌, ℕ, zero, suc, ◌+◌, ◌/◌, ◌^◌, ◌<◌, ◌≤◌, ◌==◌, ◌&&◌, true, false, cond, ltb, List, slice_index, slice_set, replicate, inl, inr, refl, sym, subst, ap, ◌∙◌, arith}
use Rattle.std.proofs.lemmas.Bool.{cases_eq, eqb-false, ltb-true, ltb-false}
use Rattle.std.proofs.lemmas.List.{length-replicate, get_or-set_same, get_or-set_other}
use Rattle.pm_words.specs.declared.layout.Layout.{Layout}
use Rattle.pm_words.specs.declared.machine.Turn.{Turn}
use Rattle.pm_words.specs.declared.machine.Turn.TheVariants.{Go, Done}
use Rattle.pm_words.specs.Offsets.{bitmap_offset, next_offset}
use Rattle.version_lock.specs.Versions.{generation_of, is_free_word, is_worn_word}
use Rattle.version_lock.proofs.WordTests.{free_word, fresh_word}
use Rattle.index_law.proofs.Versions.{own_lock, lock_fits}
use Rattle.call_stages.specs.declared.view.View.{View}
use Rattle.call_stages.specs.Kinds.{Told}
use Rattle.pm_alloc.specs.Claims.{lock_of, Locks}
use Rattle.split_merge.specs.declared.joining.Join.{Join}
use Rattle.split_merge.specs.declared.merging.Near.{Near}
use Rattle.split_merge.specs.declared.merging.Merge.{Merge}
use Rattle.split_merge.specs.declared.merging.MergeAt.{MergeAt}
use Rattle.split_merge.specs.declared.merging.MergeAt.TheVariants as at
use Rattle.split_merge.specs.declared.merging.Merged.{Merged}
use Rattle.split_merge.specs.Unions.{AreFew}
use Rattle.split_merge.specs.Joins.{IsJoin, join_turned}
use Rattle.split_merge.specs.Merges.{IsNear, IsBeside, AreWordsOf, AreHead, IsUnionOf, IsMergeAt, IsMerge, LeadsNear, saw_version, no_head, crowded, next_head, has_head, union_of, join_from, next_prints, has_prints, prints_count, merge_at_asks, merge_at_turned, merges_on, joined}
use Rattle.split_merge.specs.MergeLaws.{IsSameMerge, MergeStays, MergesStay}
use Rattle.split_merge.proofs.UnionMade.{words_set, union_made}
use Rattle.smo_log.proofs.Staying.{StaysSo}
use Rattle.split_merge.proofs.JoinStaying.{join_goes_on}

pub no_words : (n : ℕ) (offset : ℕ) → slice_index (replicate n 0) offset ≡ 0
no_words zero offset = refl
no_words (suc n) zero = refl
no_words (suc n) (suc offset) = no_words n offset

pub fresh_words : (n : ℕ) → AreWordsOf n (replicate n 0)
fresh_words n = record { size = length-replicate n 0; fits = λ offset. let none = no_words n offset in omega arith }

module _ (merge : Merge) (sound : IsMerge merge) where
  abbrev view : View
  view = merge.view

  abbrev l : Layout
  l = view.layout

  abbrev Stays : Turn Merge Merged → Type 0
  Stays = MergeStays merge

  pub same_merge : (at : MergeAt) → IsMergeAt view merge.node merge.word merge.line at → IsMerge (record merge { at = at }) × IsSameMerge merge (record merge { at = at })
  same_merge at here = (record { view = sound.view; node = sound.node; lock = sound.lock; line = sound.line; here = here }, record { view = refl; node = refl; word = refl; line = refl })

  -- where a version word is seen that may be locked
  pub version_here : (near : Near) (x : ℕ) → IsNear view near → near.right ≢ 0 → generation_of x ≤ view.generation → IsMergeAt view merge.node merge.word merge.line (saw_version merge near x)
  version_here near x is some known =
      elim (is_free_word x view.generation) as (λ b. is_free_word x view.generation ≡ b → IsMergeAt view merge.node merge.word merge.line (cond b (cond (is_worn_word x view.generation) (at.Leave near) (at.Lock near x (lock_of x view.generation))) (at.Leave near))) [
        | true ↦ λ free. elim (is_worn_word x view.generation) as (λ b. is_worn_word x view.generation ≡ b → IsMergeAt view merge.node merge.word merge.line (cond b (at.Leave near) (at.Lock near x (lock_of x view.generation)))) [
          | true ↦ λ worn. tt
          | false ↦ λ fresh. (is, some, record { known = known; free = free_word x view.generation free; unworn = fresh_word x view.generation fresh; lock = refl })
        ] refl
        | false ↦ λ taken. tt
      ] refl

  pub first_head : (near : Near) → AreHead view near no_head bitmap_offset
  first_head near = record {
    words = fresh_words 16;
    few = λ more. absurd (omega arith);
    behind = (let none = no_words 16 next_offset in let some = sound.view.layout.nodes.0 in omega arith);
  }

  pub found_here : (near : Near) (version locked : ℕ) → IsNear view near → near.right ≢ 0 → Locks view.generation version locked → IsBeside view near locked
  found_here near version locked is some locks =
      let own = own_lock version locked view.generation locks.known locks.unworn locks.lock in
      let fits = lock_fits locked view.generation own sound.view.generation in
      record { leads = is; some = some; lock = record { locked = own.locked; unworn = own.unworn; fits = omega arith } }

  -- one word more of the neighbour
  pub head_more : (near : Near) (head : List ℕ) (count x : ℕ) → AreHead view near head count → 1 ≤ count → count < 16 → x < 2 ^ 64 → (count ≡ 1 → AreFew l.slots near.own x) → (count ≡ 2 → x < l.nodes)
      → AreHead view near (slice_set head count x) (count + 1)
  head_more near head count x are low high fits few leads =
      let size = are.words.size in
      let value = get_or-set_same head count x 0 (omega arith) in
      record {
        words = words_set 16 head count x are.words high fits;
        few = λ more. elim (cases_eq count bitmap_offset) [
          | inl first ↦ subst (λ w. AreFew l.slots near.own w) (sym (ap (λ k. slice_index (slice_set head count x) k) (sym first) ∙ value)) (few first)
          | inr other ↦ subst (λ w. AreFew l.slots near.own w) (sym (get_or-set_other head count bitmap_offset x 0 (λ e. other (sym e)))) (are.few (omega arith))
        ];
        behind = elim (cases_eq count next_offset) [
          | inl here ↦ subst (λ w. w < l.nodes) (sym (ap (λ k. slice_index (slice_set head count x) k) (sym here) ∙ value)) (leads here)
          | inr other ↦ subst (λ w. w < l.nodes) (sym (get_or-set_other head count next_offset x 0 (λ e. other (sym e)))) are.behind
        ];
      }

  pub few_now : (near : Near) (x : ℕ) → ltb (l.slots / 2) (crowded merge near x) ≡ false → AreFew l.slots near.own x
  few_now near x is = ltb-false _ _ is

  pub head_here : (near : Near) (locked : ℕ) (head : List ℕ) (count : ℕ) → IsBeside view near locked → AreHead view near head (count + 1) → 1 ≤ count → count < 16
      → IsMergeAt view merge.node merge.word merge.line (next_head near locked head count)
  head_here near locked head count beside are low high =
      elim (ltb (count + 1) 16) as (λ b. ltb (count + 1) 16 ≡ b → IsMergeAt view merge.node merge.word merge.line (cond b (at.Head near locked head (count + 1)) (at.Prints near locked head (replicate 4 0) 0))) [
        | true ↦ λ more. (beside, are, omega arith, ltb-true _ _ more)
        | false ↦ λ last.
            let end : count + 1 ≡ 16 = (let le = ltb-false _ _ last in omega arith) in
            (beside, subst (AreHead view near head) end are, fresh_words 4, omega arith)
      ] refl

  pub join_here : (near : Near) (locked : ℕ) (head prints : List ℕ) → IsBeside view near locked → AreHead view near head 16 → AreWordsOf 4 prints → IsMergeAt view merge.node merge.word merge.line (at.Join (join_from (union_of merge near locked head prints)))
  join_here near locked head prints beside are words =
      let union = union_made merge near locked head prints 0 prints (record { view = sound.view; node = sound.node; word = sound.lock; line = sound.line; beside = beside; heads = are; words = words; within = omega arith }) words in (
        record { union = union; here = (record { layout = union.layout; line = union.line; entry = union.entry; here = (omega arith, omega arith) }, refl, refl, refl) },
        record { layout = refl; node_is = refl; locked = refl; line_is = refl },
      )

  pub prints_here : (near : Near) (locked : ℕ) (head prints : List ℕ) (count : ℕ) → IsBeside view near locked → AreHead view near head 16 → AreWordsOf 4 prints
      → IsMergeAt view merge.node merge.word merge.line (next_prints merge near locked head prints count)
  prints_here near locked head prints count beside are words =
      elim (ltb count (prints_count view)) as (λ b. ltb count (prints_count view) ≡ b → IsMergeAt view merge.node merge.word merge.line (cond b (at.Prints near locked head prints count) (at.Join (join_from (union_of merge near locked head prints))))) [
        | true ↦ λ more. (beside, are, words, ltb-true _ _ more)
        | false ↦ λ last. join_here near locked head prints beside are words
      ] refl

  pub prints_more : (prints : List ℕ) (count x : ℕ) → AreWordsOf 4 prints → count < prints_count view → x < 2 ^ 64 → AreWordsOf 4 (slice_set prints count x)
  prints_more prints count x words within fits = words_set 4 prints count x words (let most = sound.view.layout.slots.1 in omega arith) fits

  has_head_here : (near : Near) (locked : ℕ) (head : List ℕ) (count x : ℕ) → IsBeside view near locked → AreHead view near head count → 1 ≤ count → count < 16 → x < 2 ^ 64 → (count ≡ 2 → x < l.nodes)
      → IsMergeAt view merge.node merge.word merge.line (has_head merge near locked head count x)
  has_head_here near locked head count x beside are low high fits leads =
      elim (count == 1) as (λ b. (count == 1) ≡ b → IsMergeAt view merge.node merge.word merge.line
      (cond (b && ltb (l.slots / 2) (crowded merge near x)) (at.Part near locked x) (next_head near locked (slice_set head count x) count))) [
        | true ↦ λ first. elim (ltb (l.slots / 2) (crowded merge near x)) as (λ b. ltb (l.slots / 2) (crowded merge near x) ≡ b → IsMergeAt view merge.node merge.word merge.line
            (cond b (at.Part near locked x) (next_head near locked (slice_set head count x) count))) [
              | true ↦ λ many. beside
              | false ↦ λ few. head_here near locked (slice_set head count x) count beside (head_more near head count x are low high fits (λ _. few_now near x few) leads) low high
            ] refl
        | false ↦ λ later. head_here near locked (slice_set head count x) count beside (head_more near head count x are low high fits (λ is. absurd (eqb-false _ _ later is)) leads) low high
      ] refl

  turned_here : (k : MergeAt) (x : ℕ) → IsMergeAt view merge.node merge.word merge.line k → Told l view.generation (merge_at_asks merge k) x → LeadsNear merge k x → Stays (merge_at_turned merge k x)
  turned_here at.Bitmap x here told leads = same_merge (at.Next x) told.fits
  turned_here (at.Next own) x here told leads =
      let near : Near = record { own = own; right = x } in
      elim (x == 0) as (λ b. (x == 0) ≡ b → Stays (merges_on merge (cond b (at.Leave near) (at.Version near)))) [
        | true ↦ λ none. same_merge (at.Leave near) tt
        | false ↦ λ some. same_merge (at.Version near) (record { own = here; right = leads }, eqb-false _ _ some)
      ] refl
  turned_here (at.Version near) x here told leads =
      same_merge (saw_version merge near x) (version_here near x here.0 here.1 (told.known near.right here.0.right refl))
  turned_here (at.Lock near version locked) x here told leads =
      elim (x == version) as (λ b. Stays (merges_on merge (cond b (at.Head near locked no_head bitmap_offset) (at.Leave near)))) [
        | true ↦ same_merge (at.Head near locked no_head bitmap_offset) (found_here near version locked here.0 here.1 here.2, first_head near, omega arith, omega arith)
        | false ↦ same_merge (at.Leave near) tt
      ]
  turned_here (at.Head near locked head count) x here told leads =
      same_merge (has_head merge near locked head count x) (has_head_here near locked head count x here.0 here.1 here.2 here.3 told.fits leads)
  turned_here (at.Prints near locked head prints count) x here told leads =
      same_merge (has_prints merge near locked head prints count x)
      (prints_here near locked head (slice_set prints count x) (count + 1) here.0 here.1 (prints_more prints count x here.2 here.3 told.fits))
  turned_here (at.Join join) x here told leads = of (join_turned join x) (join_goes_on join x here.0 told.fits)
    where
      of : (turn : Turn Join (Unit {0})) → StaysSo (λ next. IsJoin next × (next.union ≡ join.union)) turn → Stays (joined merge turn)
      of (Go next) stays = same_merge (at.Join next) (stays.0, subst (IsUnionOf view merge.node merge.word merge.line) (sym stays.1) here.1)
      of (Done nothing) stays = tt
  turned_here (at.Part near locked bitmap) x here told leads = same_merge (at.Leave near) tt
  turned_here (at.Leave near) x here told leads = tt

pub merges_stay : MergesStay
merges_stay merge x takes = turned_here merge takes.0 merge.at x takes.0.here takes.1 takes.2
