-- The machine that loads a permutation has read what it was told.
use Rattle.std.proofs.Common.{◌≡◌, ℕ, zero, suc, ◌+◌, ◌<◌, ◌≤◌, ◌==◌, true, false, cond, List, length, slice_set, refl, sym, ◌∙◌, subst, arith}
use Rattle.std.specs.Prelude.{Option, Some, None, IfSome}
use Rattle.std.proofs.lemmas.Bool.{eqb-true}
use Rattle.std.proofs.lemmas.List.{get_or-set_same, get_or-set_other}
use Rattle.pm_words.specs.declared.machine.Turn.TheVariants.{Go, Done}
use Rattle.pm_words.specs.Rows.{got}
use Rattle.call_stages.specs.Stages.{Held, Sight, Reads, Tells}
use Rattle.permutation.specs.declared.load.LoadPermutation.{LoadPermutation}
use Rattle.permutation.specs.declared.load.LoadPermutationAt.{LoadPermutationAt}
use Rattle.permutation.specs.declared.load.LoadPermutationAt.TheVariants.{Version, Word}
use Rattle.permutation.specs.Stores.{words_first}
use Rattle.permutation.specs.Loads.{IsLoad, IsLoadAt, load_at_asks, load_at_turned, load_at_read, read_after}
use Rattle.index_law.specs.Facts.{Facts}
use Rattle.index_law.specs.Lawful.{Sure}
use Rattle.permutation_law.specs.Laws.{HasRead, LoadsRead}
use Rattle.permutation_law.proofs.Reading.{reading_begins, reading_goes_on}

-- words that are loaded already stay
still : (words : List ℕ) (n x m : ℕ) (q : ℕ → ℕ) → m ≤ n → Tells (words_first words m) q → Tells (words_first (slice_set words n x) m) q
still words n x zero q few tells = tt
still words n x (suc m) q few tells = (tells.0 ∙ sym (get_or-set_other words n m x 0 (λ e. omega arith)), still words n x m q (omega arith) tells.1)

-- and one more is loaded
one_more : (words : List ℕ) (n x : ℕ) (q : ℕ → ℕ) → n < length words → Tells (words_first words n) q → q n ≡ x → Tells (words_first (slice_set words n x) (suc n)) q
one_more words n x q within tells is = (is ∙ sym (get_or-set_same words n x 0 within), still words n x n q (omega arith) tells)

module _ (load : LoadPermutation) (g : ℕ) (f : Facts) (words : List ℕ) (caller index since : ℕ) (k : Sight) (h : Option Held) (x : ℕ) (sound : IsLoad load) (sure : Sure load.layout g f caller index since (Reads load.node load.version k h)) where
  abbrev Read : List (ℕ × ℕ) → Type 0
  Read seen = HasRead load.layout g f words load.node load.version seen

  begun : x ≡ got load.layout words (load_at_asks load.layout load.node Version) → IfSome (read_after (load_at_turned load Version x)) Read
  begun told = elim (x == load.version) as (λ b. (x == load.version) ≡ b → IfSome (read_after (cond b (Go (record load { at = Word 0 })) (Done None))) Read) [
    | true ↦ λ same. reading_begins load.layout g f words caller index since load.node load.version k h sure (sym told ∙ eqb-true x load.version same)
    | false ↦ λ _. tt
  ] refl

  more : (n : ℕ) → n < 8 → Read (words_first load.words n) → x ≡ got load.layout words (load_at_asks load.layout load.node (Word n)) → IfSome (read_after (load_at_turned load (Word n) x)) Read
  more n low read told =
      let room = sound.room in
      let next : suc n ≡ n + 1 = omega arith in
      let now : Read (words_first (slice_set load.words n x) (n + 1)) = subst (λ (m : ℕ). Read (words_first (slice_set load.words n x) m)) next
      (reading_goes_on load.layout g f words load.node load.version n x (words_first load.words n) (words_first (slice_set load.words n x) (suc n)) read low told
      (λ q tells is. one_more load.words n x q (omega arith) tells is)) in
      elim (n + 1 == 8) as (λ b. (n + 1 == 8) ≡ b → IfSome (read_after (cond b (Done (Some (slice_set load.words n x))) (Go (record load { words = slice_set load.words n x; at = Word (n + 1) })))) Read) [
        | true ↦ λ whole. subst (λ (m : ℕ). Read (words_first (slice_set load.words n x) m)) (eqb-true (n + 1) 8 whole) now
        | false ↦ λ _. now
      ] refl

  of : (at : LoadPermutationAt) → IsLoadAt at → IfSome (load_at_read load.words at) Read → x ≡ got load.layout words (load_at_asks load.layout load.node at) → IfSome (read_after (load_at_turned load at x)) Read
  of Version here read told = begun told
  of (Word n) here read told = more n here read told

pub loads_read : LoadsRead
loads_read load g f words caller index since k h x sound sure read told = of load g f words caller index since k h x sound sure load.at sound.here read told
