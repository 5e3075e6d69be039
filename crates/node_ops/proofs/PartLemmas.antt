-- What the definitions of a part of a range scan compute to.
use Rattle.std.proofs.Common.{◌≡◌, ℕ, zero, suc, ◌+◌, ◌-◌, ◌*◌, ◌<◌, ◌≤◌, ◌==◌, true, false, cond, ltb, refl, sym, subst, ap, ◌∙◌, arith}
use Rattle.std.specs.Int.{bit_at}
use Rattle.std.proofs.lemmas.Bool.{ne_eqb, ltb-true}
use Rattle.pm_words.specs.Turns.{GoesBelow}
use Rattle.call_stages.specs.declared.once.Once.{Once}
use Rattle.node_ops.specs.declared.call.Call.{Call}
use Rattle.node_ops.specs.declared.part.Reading.{Reading}
use Rattle.node_ops.specs.declared.part.ReadingAt.{ReadingAt}
use Rattle.node_ops.specs.declared.part.ReadingAt.TheVariants as at
use Rattle.node_ops.specs.declared.part.Part.{Part}
use Rattle.node_ops.specs.declared.part.Part.TheVariants as part
use Rattle.node_ops.specs.declared.part.PartWords.{PartWords}
use Rattle.node_ops.specs.declared.part.Way.{Way}
use Rattle.node_ops.specs.declared.part.Way.TheVariants as ways
use Rattle.node_ops.specs.PartSteps.{IsPart, IsReadingAt, part_turned, reading_turned, load_from, next_at, after_at, part_left, after_bitmap, after_word, end_left, goes_on, low_value, reading_left, sorted_by, with_word}
use Rattle.node_ops.proofs.PartSound.{goes_call}

-- if this slot isn't live, the next one is one of those behind it
pub next-clear : (bitmap slot slots : ℕ) → slot < slots → (bit_at bitmap slot ≡ 1 → ⊥) → next_at bitmap slot slots ≡ next_at bitmap (slot + 1) slots
next-clear bitmap slot slots within clear =
    let some : slots - slot ≡ suc (slots - (slot + 1)) = omega arith in
    ap (load_from bitmap slot) some
    ∙ ap (λ b. cond b (at.Load slot 0) (load_from bitmap (slot + 1) (slots - (slot + 1)))) (ne_eqb (bit_at bitmap slot) 1 clear)

-- what is left from one of the live slots on
pub load_left : (reading : Reading) (slot more : ℕ) → slot + more ≡ reading.call.view.layout.slots
    → reading_left reading.call.view.layout.slots (goes_on reading (load_from reading.bitmap slot more)).way (goes_on reading (load_from reading.bitmap slot more)).at ≤ 4 * more + end_left reading.way
load_left reading slot zero is = at reading.way
  where
    at : (way : Way) → reading_left reading.call.view.layout.slots (sorted_by (record reading { old = low_value reading reading.call.view.layout.slots }) way).way
        (sorted_by (record reading { old = low_value reading reading.call.view.layout.slots }) way).at ≤ 4 * 0 + end_left way
    at (ways.Served words) = omega arith
    at (ways.Held words) = omega arith
    at ways.Alone = omega arith
load_left reading slot (suc more) is =
    let slots = reading.call.view.layout.slots in
    let rest = load_left reading (slot + 1) more (omega arith) in
    elim (bit_at reading.bitmap slot == 1) as (λ b. reading_left slots (goes_on reading (cond b (at.Load slot 0) (load_from reading.bitmap (slot + 1) more))).way
    (goes_on reading (cond b (at.Load slot 0) (load_from reading.bitmap (slot + 1) more))).at ≤ 4 * suc more + end_left reading.way) [
      | true ↦ omega arith
      | false ↦ omega arith
    ]

-- less is left after the bitmap,
pub bitmap_fewer : (reading : Reading) (got : ℕ) → reading_left reading.call.view.layout.slots (after_bitmap reading got).way (after_bitmap reading got).at < 4 * reading.call.view.layout.slots + 1 + end_left reading.way
bitmap_fewer reading got =
    let rest = load_left (record reading { bitmap = got }) 0 (reading.call.view.layout.slots - 0) (omega arith) in
    omega (arith, rest)

-- and after a word,
pub word_fewer : (reading : Reading) (slot word got : ℕ) → slot < reading.call.view.layout.slots → word < 4
    → reading_left reading.call.view.layout.slots (after_word reading slot word got).way (after_word reading slot word got).at < 4 * (reading.call.view.layout.slots - slot) + end_left reading.way - word
word_fewer reading slot word got within small =
    let slots = reading.call.view.layout.slots in
    let then_reading = record reading { entries = with_word reading.entries slot word got } in
    let rest = load_left then_reading (slot + 1) (slots - (slot + 1)) (omega arith) in
    elim (ltb (word + 1) 4) as (λ b. ltb (word + 1) 4 ≡ b → reading_left slots (goes_on then_reading (cond b (at.Load slot (word + 1)) (next_at reading.bitmap (slot + 1) slots))).way
    (goes_on then_reading (cond b (at.Load slot (word + 1)) (next_at reading.bitmap (slot + 1) slots))).at < 4 * (slots - slot) + end_left reading.way - word) [
      | true ↦ λ is. let more : word + 1 < 4 = ltb-true _ _ is in omega arith
      | false ↦ λ is. omega (arith, rest)
    ] refl

-- so has the part
pub bitmap_goes : (reading : Reading) (got : ℕ) → part_left (part.Reading (after_bitmap reading got)) < 4 * reading.call.view.layout.slots + 1 + end_left reading.way
bitmap_goes reading got =
    subst (λ (call : Call). reading_left call.view.layout.slots (after_bitmap reading got).way (after_bitmap reading got).at < 4 * reading.call.view.layout.slots + 1 + end_left reading.way)
    (sym (goes_call (record reading { bitmap = got }) (next_at got 0 reading.call.view.layout.slots))) (bitmap_fewer reading got)

pub word_goes : (reading : Reading) (slot word got : ℕ) → slot < reading.call.view.layout.slots → word < 4
    → part_left (part.Reading (after_word reading slot word got)) < 4 * (reading.call.view.layout.slots - slot) + end_left reading.way - word
word_goes reading slot word got within small =
    subst (λ (call : Call). reading_left call.view.layout.slots (after_word reading slot word got).way (after_word reading slot word got).at < 4 * (reading.call.view.layout.slots - slot) + end_left reading.way - word)
    (sym (goes_call (record reading { entries = with_word reading.entries slot word got }) (after_at reading slot word))) (word_fewer reading slot word got within small)

-- and so has each of these turns of it
pub bitmap_turns : (p : Part) (reading : Reading) (got : ℕ) → p ≡ part.Reading reading → reading.at ≡ at.Bitmap → GoesBelow {A = Once PartWords} part_left (part_left p) (part_turned p got)
bitmap_turns p reading got is here =
    subst (λ (q : Part). GoesBelow {A = Once PartWords} part_left (part_left q) (part_turned q got)) (sym is)
    (subst (λ (now : ReadingAt). GoesBelow {A = Once PartWords} part_left (reading_left reading.call.view.layout.slots reading.way now) (reading_turned reading now got)) (sym here)
    (bitmap_goes reading got))

pub word_turns : (p : Part) (reading : Reading) (slot word got : ℕ) → p ≡ part.Reading reading → reading.at ≡ at.Load slot word → IsPart p → GoesBelow {A = Once PartWords} part_left (part_left p) (part_turned p got)
word_turns p reading slot word got is here sound =
    let whole = subst IsPart is sound in
    let loads = subst (IsReadingAt reading) here whole.here in
    subst (λ (q : Part). GoesBelow {A = Once PartWords} part_left (part_left q) (part_turned q got)) (sym is)
    (subst (λ (now : ReadingAt). GoesBelow {A = Once PartWords} part_left (reading_left reading.call.view.layout.slots reading.way now) (reading_turned reading now got)) (sym here)
    (word_goes reading slot word got loads.0 loads.2))
