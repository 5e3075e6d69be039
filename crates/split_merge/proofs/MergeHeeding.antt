-- What a merge answers follows from what it was told.
use Rattle.std.proofs.Common.{◌≡◌, ℕ, ◌+◌, ◌/◌, ◌==◌, ◌&&◌, true, false, cond, ltb, List, slice_index, slice_set, replicate, inl, inr, refl, sym, subst, ap, ◌∙◌, arith}
use Rattle.std.proofs.lemmas.Bool.{cases_eq, eqb-true, eqb-false, ltb-true, ltb-false}
use Rattle.std.proofs.lemmas.List.{get_or-set_same, get_or-set_other}
use Rattle.pm_words.specs.declared.machine.Turn.{Turn}
use Rattle.pm_words.specs.declared.machine.Turn.TheVariants.{Go, Done}
use Rattle.pm_words.specs.Offsets.{bitmap_offset}
use Rattle.version_lock.specs.Versions.{IsFree, IsWorn, is_free_word, is_worn_word}
use Rattle.version_lock.proofs.WordTests.{taken_word, worn_word}
use Rattle.data_node.specs.Bits.{live_count}
use Rattle.pm_alloc.specs.Claims.{lock_of}
use Rattle.split_merge.specs.declared.joining.Join.{Join}
use Rattle.split_merge.specs.declared.merging.Near.{Near}
use Rattle.split_merge.specs.declared.merging.Merge.{Merge}
use Rattle.split_merge.specs.declared.merging.MergeAt.{MergeAt}
use Rattle.split_merge.specs.declared.merging.MergeAt.TheVariants as at
use Rattle.split_merge.specs.declared.merging.Merged.{Merged}
use Rattle.split_merge.specs.Joins.{join_turned}
use Rattle.split_merge.specs.Merges.{IsMergeAt, IsMerge, no_head, crowded, next_head, union_of, join_from, prints_count, merge_at_turned, merges_on, joined}
use Rattle.split_merge.specs.MergeEvents.{MergeHeard, Merges, MergeHas, MergeHearsSo, MergeHeeds, MergesHeed}

module _ (merge : Merge) (sound : IsMerge merge) (heard : MergeHeard) where
  abbrev Heed : Turn Merge Merged → Type 0
  Heed = MergeHeeds merge.view heard

  abbrev Has : MergeAt → Type 0
  Has = MergeHas merge.view heard

  abbrev g : ℕ
  g = merge.view.generation

  abbrev slots : ℕ
  slots = merge.view.layout.slots

  at_next : (own x : ℕ) → x ≡ heard.right → own ≡ heard.own → Heed (merge_at_turned merge (at.Next own) x)
  at_next own x is has =
      let near : Near = record { own = own; right = x } in
      elim (x == 0) as (λ b. (x == 0) ≡ b → Heed (merges_on merge (cond b (at.Leave near) (at.Version near)))) [
        | true ↦ λ none. λ m. m.took.some (sym is ∙ eqb-true _ _ none)
        | false ↦ λ some. (has, is)
      ] refl

  at_version : (near : Near) (x : ℕ) → x ≡ heard.version → Has (at.Version near) → Heed (merge_at_turned merge (at.Version near) x)
  at_version near x is has =
      elim (is_free_word x g) as (λ b. is_free_word x g ≡ b → Has (cond b (cond (is_worn_word x g) (at.Leave near) (at.Lock near x (lock_of x g))) (at.Leave near))) [
        | true ↦ λ free. elim (is_worn_word x g) as (λ b. is_worn_word x g ≡ b → Has (cond b (at.Leave near) (at.Lock near x (lock_of x g)))) [
          | true ↦ λ worn. λ m. m.took.unworn (subst (λ v. IsWorn v g) is (worn_word x g worn))
          | false ↦ λ fresh. (has.0, has.1, is)
        ] refl
        | false ↦ λ taken. λ m. taken_word x g taken (subst (λ v. IsFree v g) (sym is) m.took.free)
      ] refl

  at_lock : (near : Near) (version locked x : ℕ) → IsMergeAt merge.view merge.node merge.word merge.line (at.Lock near version locked) → x ≡ heard.found → Has (at.Lock near version locked)
      → Heed (merge_at_turned merge (at.Lock near version locked) x)
  at_lock near version locked x here is has =
      elim (x == version) as (λ b. (x == version) ≡ b → Has (cond b (at.Head near locked no_head bitmap_offset) (at.Leave near))) [
        | true ↦ λ same. (
          record {
            some = λ none. here.1 (has.1 ∙ none);
            free = subst (λ v. IsFree v g) has.2 here.2.free;
            unworn = λ worn. here.2.unworn (subst (λ v. IsWorn v g) (sym has.2) worn);
            found = sym is ∙ eqb-true _ _ same ∙ has.2;
          },
          has.0,
          λ more. absurd (omega arith),
        )
        | false ↦ λ other. λ m. eqb-false _ _ other (is ∙ m.took.found ∙ sym has.2)
      ] refl

  at_head : (near : Near) (locked : ℕ) (head : List ℕ) (count x : ℕ) → IsMergeAt merge.view merge.node merge.word merge.line (at.Head near locked head count) → (count ≡ 1 → x ≡ heard.bitmap) → Has (at.Head near locked head count)
      → Heed (merge_at_turned merge (at.Head near locked head count) x)
  at_head near locked head count x here is has =
      elim (count == 1) as (λ b. (count == 1) ≡ b → Has (cond (b && ltb (slots / 2) (crowded merge near x)) (at.Part near locked x) (next_head near locked after count))) [
        | true ↦ λ first. elim (ltb (slots / 2) (crowded merge near x)) as (λ b. ltb (slots / 2) (crowded merge near x) ≡ b → Has (cond b (at.Part near locked x) (next_head near locked after count))) [
          | true ↦ λ many. λ m.
              let few = m.few in
              let own : live_count slots near.own ≡ live_count slots heard.own = ap (live_count slots) has.1 in
              let right : live_count slots x ≡ live_count slots heard.bitmap = ap (live_count slots) (is (eqb-true _ _ first)) in
              let more = ltb-true _ _ many in
              omega arith
          | false ↦ λ few. next
        ] refl
        | false ↦ λ later. next
      ] refl
    where
      after : List ℕ
      after = slice_set head count x

      bitmap_is : slice_index after 1 ≡ heard.bitmap
      bitmap_is = elim (cases_eq count bitmap_offset) [
        | inl first ↦ ap (λ k. slice_index after k) (sym first) ∙ get_or-set_same head count x 0 (let size = here.1.words.size in let high = here.3 in omega arith) ∙ is first
        | inr other ↦ get_or-set_other head count 1 x 0 (λ e. other (sym e)) ∙ has.2 (let low = here.2 in omega arith)
      ]

      next : Has (next_head near locked after count)
      next = elim (ltb (count + 1) 16) as (λ b. ltb (count + 1) 16 ≡ b → Has (cond b (at.Head near locked after (count + 1)) (at.Prints near locked after (replicate 4 0) 0))) [
        | true ↦ λ more. (has.0, has.1, λ _. bitmap_is)
        | false ↦ λ last.
            let le = ltb-false _ _ last in
            let few = here.1.few (omega arith) in
            let own : live_count slots near.own ≡ live_count slots heard.own = ap (live_count slots) has.1 in
            let right : live_count slots (slice_index head 1) ≡ live_count slots heard.bitmap = ap (live_count slots) (has.2 (omega arith)) in
            record { took = has.0; few = omega arith }
      ] refl

  at_join : (join : Join) (x : ℕ) → Merges merge.view heard → Heed (joined merge (join_turned join x))
  at_join join x has = of (join_turned join x)
    where
      of : (turn : Turn Join (Unit {0})) → Heed (joined merge turn)
      of (Go next) = has
      of (Done nothing) = (λ yes. has, λ m. refl)

  heeds : (k : MergeAt) (x : ℕ) → IsMergeAt merge.view merge.node merge.word merge.line k → MergeHearsSo heard k x → Has k → Heed (merge_at_turned merge k x)
  heeds at.Bitmap x here hears has = hears
  heeds (at.Next own) x here hears has = at_next own x hears has
  heeds (at.Version near) x here hears has = at_version near x hears has
  heeds (at.Lock near version locked) x here hears has = at_lock near version locked x here hears has
  heeds (at.Head near locked head count) x here hears has = at_head near locked head count x here hears has
  heeds (at.Prints near locked head prints count) x here hears has =
      elim (ltb (count + 1) (prints_count merge.view)) as (λ b. Has (cond b (at.Prints near locked head (slice_set prints count x) (count + 1)) (at.Join (join_from (union_of merge near locked head (slice_set prints count x)))))) [
        | true ↦ has
        | false ↦ has
      ]
  heeds (at.Join join) x here hears has = at_join join x has
  heeds (at.Part near locked bitmap) x here hears has = has
  heeds (at.Leave near) x here hears has = (λ no. absurd (let e : false ≡ true = no in cc), λ m. absurd (has m))

pub merges_heed : MergesHeed
merges_heed merge heard x takes hears has = heeds merge takes.0 heard merge.at x takes.0.here hears has
