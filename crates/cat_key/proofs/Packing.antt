-- Texts and their words: how a byte goes in, and how the bytes come out again.
use Rattle.std.proofs.Common.{◌≡◌, ℕ, zero, suc, ◌+◌, ◌-◌, ◌*◌, ◌/◌, ◌%◌, ◌^◌, ◌<◌, ◌≤◌, ◌==◌, not, false, cond, List, [], ◌∷◌, ◌++◌, length, get_or, set, take, drop, All, refl, sym, ap, ◌∙◌, inl, inr, subst, arith, length-append, length-drop, zero-add, suc-add, drop_of_length-le, length-take-le, get_or-set_same, pow-add, pow-suc, ne_eqb, lit<}
use Rattle.std.proofs.lemmas.Bool.{cases_lt}
use Rattle.std.proofs.lemmas.List.{drop-append-le, take_more}
use Rattle.std.proofs.lemmas.Nat.{shl_whole}
use Rattle.std.proofs.lemmas.List.Elements.{All-head, All-tail, All-take, All-drop, All-get_or, All-weaker}
use Rattle.std.proofs.lemmas.List.Sums.{take_while-cons}
use Rattle.cat_key.specs.Names.{IsName, IsNameByte, IsPacked, AreNameWords, padded, word_of, first_words, words_of, all_bytes, before_zero, bytes_of}
use Rattle.cat_key.specs.declared.TheConstants.{WORDS}
use Rattle.cat_key.proofs.Digits.{IsByte, number-push, number-full, number_below, word_is_number, to_be_bytes-word_of}

-- one more byte of a word that is not full
word_of-push : (text : List ℕ) (byte : ℕ) → length text < 8 → word_of (text ++ byte ∷ []) ≡ word_of text + byte * 256 ^ (7 - length text)
word_of-push text byte h =
    word_is_number (text ++ byte ∷ [])
    ∙ number-push 8 text byte h
    ∙ ap (λ n. n + byte * 256 ^ (7 - length text)) (sym (word_is_number text))

word_of-full : (text more : List ℕ) → 8 ≤ length text → word_of (text ++ more) ≡ word_of text
word_of-full text more h =
    word_is_number (text ++ more) ∙ number-full 8 text more h ∙ sym (word_is_number text)

-- a word fits 64 bits
pub word_of_below : (text : List ℕ) → All IsByte text → word_of text < 2 ^ 64
word_of_below text h = omega (arith, word_is_number text, number_below 8 text h)

-- the words with a byte more, at this place of their text
with_byte : List ℕ → ℕ → ℕ → List ℕ
with_byte words at byte = set words (at / 8) (get_or words (at / 8) 0 + byte * 256 ^ (7 - at % 8))

with_byte-first : (word : ℕ) (words : List ℕ) (at byte : ℕ) → at < 8 → with_byte (word ∷ words) at byte ≡ (word + byte * 256 ^ (7 - at)) ∷ words
unfolding with_byte
with_byte-first word words at byte h =
    let quotient : at / 8 ≡ 0 = omega arith in
    let remainder : at % 8 ≡ at = omega arith in
    rw (quotient, remainder) refl

with_byte-later : (word : ℕ) (words : List ℕ) (at byte : ℕ) → with_byte (word ∷ words) (at + 8) byte ≡ word ∷ with_byte words at byte
unfolding with_byte
with_byte-later word words at byte =
    let quotient : (at + 8) / 8 ≡ suc (at / 8) = omega arith in
    let remainder : (at + 8) % 8 ≡ at % 8 = omega arith in
    rw (quotient, remainder) refl

first_words-push : (count : ℕ) (text : List ℕ) (byte : ℕ) → length text < 8 * count → first_words count (text ++ byte ∷ []) ≡ with_byte (first_words count text) (length text) byte
first_words-push zero text byte h = absurd (omega arith)
first_words-push (suc count) text byte h =
    elim (cases_lt (length text) 8) [
      | inl short ↦
          let past : drop 8 (text ++ byte ∷ []) ≡ [] =
          drop_of_length-le (text ++ byte ∷ []) {i = 8} (omega (arith, length-append text (byte ∷ []))) in
          let past' : drop 8 text ≡ [] = drop_of_length-le text {i = 8} (omega arith) in
          rw (past, past', word_of-push text byte short)
          (sym (with_byte-first (word_of text) (first_words count []) (length text) byte short))
      | inr long ↦
          let size : length text ≡ length (drop 8 text) + 8 = omega (arith, length-drop 8 text) in
          rw (word_of-full text (byte ∷ []) long, drop-append-le 8 text (byte ∷ []) long, size)
          (ap (λ words. word_of text ∷ words) (first_words-push count (drop 8 text) byte (omega arith))
          ∙ sym (with_byte-later (word_of text) (first_words count (drop 8 text)) (length (drop 8 text)) byte))
    ]

pub words_of-push : (text : List ℕ) (byte : ℕ) → length text < 8 * WORDS → words_of (text ++ byte ∷ []) ≡ set (words_of text) (length text / 8) (get_or (words_of text) (length text / 8) 0 + byte * 256 ^ (7 - length text % 8))
unfolding words_of with_byte
words_of-push text byte h = first_words-push WORDS text byte h

-- padding of a front and of the rest
pub padded-add : (first more : ℕ) (text : List ℕ) → padded (first + more) text ≡ padded first text ++ padded more (drop first text)
padded-add zero more text = ap (λ count. padded count text) (zero-add more)
padded-add (suc first) more [] =
    let none : drop first [] ≡ [] = drop_of_length-le {A = ℕ} [] {i = first} (omega arith) in
    let rest : padded (first + more) [] ≡ padded first [] ++ padded more [] = rw none at (padded-add first more []) in
    ap (λ count. padded count []) (suc-add first more) ∙ ap (λ bytes. 0 ∷ bytes) rest
padded-add (suc first) more (byte ∷ text) =
    ap (λ count. padded count (byte ∷ text)) (suc-add first more)
    ∙ ap (λ bytes. byte ∷ bytes) (padded-add first more text)

all_bytes-first_words : (count : ℕ) (text : List ℕ) → All IsByte text → all_bytes (first_words count text) ≡ padded (8 * count) text
unfolding all_bytes
all_bytes-first_words zero text h = refl
all_bytes-first_words (suc count) text h =
    ap (λ bytes. bytes ++ all_bytes (first_words count (drop 8 text))) (to_be_bytes-word_of text h)
    ∙ ap (λ bytes. padded 8 text ++ bytes) (all_bytes-first_words count (drop 8 text) (All-drop IsByte 8 text h))
    ∙ sym (padded-add 8 (8 * count) text)
    ∙ ap (λ n. padded n text) (omega arith)

-- the bytes up to the first zero of a padded name are the name
front-padded : (count : ℕ) (text : List ℕ) → length text ≤ count → All IsNameByte text → before_zero (padded count text) ≡ text
front-padded zero [] h named = refl
front-padded zero (byte ∷ text) h named = absurd (omega arith)
front-padded (suc count) [] h named = refl
front-padded (suc count) (byte ∷ text) h named =
    let here : IsNameByte byte = All-head IsNameByte byte text named in
    let full : (byte == 0) ≡ false = ne_eqb byte 0 (λ e. omega arith) in
    take_while-cons (λ byte'. not (byte' == 0)) byte (padded count text)
    ∙ ap (λ b. cond (not b) (byte ∷ before_zero (padded count text)) []) full
    ∙ ap (λ rest. byte ∷ rest) (front-padded count text (omega arith) (All-tail IsNameByte byte text named))

pub byte_of_name : (byte : ℕ) → IsNameByte byte → IsByte byte
byte_of_name byte h = omega arith

pub name_bytes : (text : List ℕ) → IsName text → All IsByte text
name_bytes text h = All-weaker IsNameByte IsByte byte_of_name text h.bytes

pub all_bytes-words_of : (text : List ℕ) → IsName text → all_bytes (words_of text) ≡ padded (8 * WORDS) text
unfolding words_of
all_bytes-words_of text h = all_bytes-first_words WORDS text (name_bytes text h)

-- the words of a name give its bytes back
pub bytes_of-words_of : (text : List ℕ) → IsName text → bytes_of (words_of text) ≡ text
unfolding bytes_of
bytes_of-words_of text h =
    ap before_zero (all_bytes-words_of text h) ∙ front-padded (8 * WORDS) text h.fits h.bytes

-- the words of a name stand for it
pub packed_from_name : (text : List ℕ) → IsName text → IsPacked (words_of text)
packed_from_name text h =
    record { named = subst IsName (sym (bytes_of-words_of text h)) h; whole = ap words_of (bytes_of-words_of text h) }

pub packed_from_words : (words : List ℕ) → AreNameWords words → IsPacked words
packed_from_words words h = subst IsPacked h.2 (packed_from_name h.0 h.1)

-- two names with the same words are one name
pub words_tell_names : (a b : List ℕ) → IsName a → IsName b → words_of a ≡ words_of b → a ≡ b
words_tell_names a b ha hb same =
    sym (bytes_of-words_of a ha) ∙ ap bytes_of same ∙ bytes_of-words_of b hb

pub length-words_of : (text : List ℕ) → length (words_of text) ≡ WORDS
unfolding words_of
length-words_of text = refl

-- each word of a text of bytes fits 64 bits
get_or-first_words_below : (count : ℕ) (text : List ℕ) → All IsByte text → (at : ℕ) → get_or (first_words count text) at 0 < 2 ^ 64
get_or-first_words_below zero text h at = lit< tt
get_or-first_words_below (suc count) text h zero = word_of_below text h
get_or-first_words_below (suc count) text h (suc at) =
    get_or-first_words_below count (drop 8 text) (All-drop IsByte 8 text h) at

pub get_or-words_of_below : (text : List ℕ) → All IsByte text → (at : ℕ) → get_or (words_of text) at 0 < 2 ^ 64
unfolding words_of
get_or-words_of_below text h at = get_or-first_words_below WORDS text h at

-- eight bits more are one byte more
power_of_bytes : (count : ℕ) → 2 ^ (8 * count) ≡ 256 ^ count
power_of_bytes zero = refl
power_of_bytes (suc count) =
    let size : 8 * suc count ≡ 8 + 8 * count = omega arith in
    ap (λ bits. 2 ^ bits) size
    ∙ pow-add 2 8 (8 * count)
    ∙ omega (arith, pow-suc 256 count, power_of_bytes count)

-- a byte shifted to its place in a word
shifted : (byte place : ℕ) → byte < 256 → place < 8 → byte * 2 ^ (8 * (7 - place)) % 2 ^ 64 ≡ byte * 256 ^ (7 - place)
shifted byte place h p =
    shl_whole byte 8 (8 * (7 - place)) 64 h (omega arith)
    ∙ ap (λ worth. byte * worth) (power_of_bytes (7 - place))

-- one round of packing: the words of the bytes so far gain the byte at this place
pub packs_byte : (text words : List ℕ) (at byte : ℕ) → words ≡ words_of (take at text) → at < length text → length text ≤ 8 * WORDS → byte ≡ get_or text at 0 → byte < 256 → set words (at / 8) (get_or words (at / 8) 0 + byte * 2 ^ (8 * (7 - at % 8)) % 2 ^ 64) ≡ words_of (take (at + 1) text)
packs_byte text words at byte so_far within fits here small =
    let front = take at text in
    let size : length front ≡ at = length-take-le at text (omega arith) in
    let more : take (at + 1) text ≡ front ++ byte ∷ [] = rw here (take_more text at 0 within) in
    let pushed = words_of-push front byte (omega arith) in
    rw (shifted byte (at % 8) small (omega arith), more, so_far) (sym (rw size at pushed))

-- the sum of that round fits 64 bits
pub packs_within : (text words : List ℕ) (at byte : ℕ) → words ≡ words_of (take at text) → at < length text → length text ≤ 8 * WORDS → byte ≡ get_or text at 0 → All IsByte text → get_or words (at / 8) 0 + byte * 2 ^ (8 * (7 - at % 8)) % 2 ^ 64 < 2 ^ 64
packs_within text words at byte so_far within fits here bytes =
    let small : byte < 256 = rw here (All-get_or IsByte text at 0 within bytes) in
    let sum = get_or words (at / 8) 0 + byte * 2 ^ (8 * (7 - at % 8)) % 2 ^ 64 in
    let size : length words ≡ WORDS = ap length so_far ∙ length-words_of (take at text) in
    let inside : at / 8 < length words = omega arith in
    let read : get_or (words_of (take (at + 1) text)) (at / 8) 0 ≡ sum =
    ap (λ row. get_or row (at / 8) 0) (sym (packs_byte text words at byte so_far within fits here small))
    ∙ get_or-set_same words (at / 8) sum 0 inside in
    let below = get_or-words_of_below (take (at + 1) text) (All-take IsByte (at + 1) text bytes) (at / 8) in
    rw read at below
