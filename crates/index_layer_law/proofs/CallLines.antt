-- What a party knows of its log line, as the law of turns has it.
use Rattle.std.proofs.Common.{◌≡◌, ℕ, ◌+◌, ◌*◌, ◌/◌, ◌%◌, ◌<◌, ◌^◌, ◌&&◌, List, [], ◌∷◌, slice_index, sym, ◌∙◌, arith}
use Rattle.std.specs.Prelude.{nat_lt}
use Rattle.std.proofs.lemmas.Bool.{cond_both}
use Rattle.pm_words.specs.declared.layout.Layout.{Layout}
use Rattle.pm_words.specs.Locations.{Word, Location, Line, Cached, Durable, Node, at, address_of, node_words}
use Rattle.pm_words.specs.Codes.{open_state}
use Rattle.pm_words.specs.Offsets.{anchor_offset, state_offset}
use Rattle.cat_key.specs.Names.{IsName, AreNameWords, words_of}
use Rattle.cat_key.proofs.Packing.{name_bytes, get_or-words_of_below}
use Rattle.data_node.specs.Spots.{Spot}
use Rattle.data_node.specs.Lists.{anchor_in, key_of, anchor_words}
use Rattle.call_stages.specs.Stages.{Grip, Tells}
use Rattle.call_stages.specs.Lines.{HeldLine}
use Rattle.call_stages.specs.Footings.{IsOpenOf}
use Rattle.index_law.specs.Facts.{spot_in}
use Rattle.index_law.specs.Lines.{line_in, safe_line, SureLine}
use Rattle.index_law.proofs.Claims.{clean_lines_are_durable}
use Rattle.index_law.proofs.Noting.{line-here, safe-here}
use Rattle.layer_map.proofs.KeyLemmas.{words_told}
use Rattle.updater_law.specs.Covers.{IsCover}
use Rattle.updater_row_law.specs.Columns.{line_field, line_count, lines_in}
use Rattle.updater_row_law.proofs.RowColumns.{column-here}
use Rattle.index_layer_law.specs.Turnings.{line_number}

module _ (l : Layout) (words : List ℕ) (e : HeldLine) (here : (e.caller < l.callers) × (e.number < 8)) where
  number_here : line_number e < line_count l
  number_here = let caller = here.0 in let number = here.1 in omega arith

  its_caller : line_number e / 8 ≡ e.caller
  its_caller = let number = here.1 in omega arith

  its_number : line_number e % 8 ≡ e.number
  its_number = let number = here.1 in omega arith

  -- the columns of lines have the line's words
  pub line_tie : (o : ℕ) → o < 8 → line_field l words Cached o (line_number e) ≡ line_in l words e.caller e.number o
  line_tie o small =
      column-here l words (line_count l) (λ j. Cached (Line (j / 8) (j % 8) o)) (line_number e) number_here
      ∙ (λ k. at l words (Cached (Line (its_caller k) (its_number k) o)))
      ∙ sym (line-here l words e.caller e.number o (here.0, here.1, small))

  pub safe_tie : (o : ℕ) → o < 8 → line_field l words Durable o (line_number e) ≡ safe_line l words e.caller e.number o
  safe_tie o small =
      column-here l words (line_count l) (λ j. Durable (Line (j / 8) (j % 8) o)) (line_number e) number_here
      ∙ (λ k. at l words (Durable (Line (its_caller k) (its_number k) o)))
      ∙ sym (safe-here l words e.caller e.number o (here.0, here.1, small))

  anchor_tie : (twin : Word → Location) (read : ℕ → ℕ) → ((o : ℕ) → o < 8 → line_field l words twin o (line_number e) ≡ read o) → (lines_in l words twin).anchor (line_number e) ≡ anchor_in read
  unfolding anchor_in
  anchor_tie twin read tie =
      let first = tie anchor_offset (omega arith) in
      let second = tie (anchor_offset + 1) (omega arith) in
      let third = tie (anchor_offset + 2) (omega arith) in
      λ k. (first k * 2 ^ 64 + second k) * 2 ^ 64 + third k

  pub anchor_line_tie : (lines_in l words Cached).anchor (line_number e) ≡ anchor_in (line_in l words e.caller e.number)
  anchor_line_tie = anchor_tie Cached (line_in l words e.caller e.number) line_tie

  pub anchor_safe_tie : (lines_in l words Durable).anchor (line_number e) ≡ anchor_in (safe_line l words e.caller e.number)
  anchor_safe_tie = anchor_tie Durable (safe_line l words e.caller e.number) safe_tie

-- a node's words are words
spot_fits : (l : Layout) (words : List ℕ) → ((k : ℕ) → slice_index words k < 2 ^ 64) → (n o : ℕ) → spot_in l words n o < 2 ^ 64
unfolding spot_in
spot_fits l words fits n o = cond_both (nat_lt n l.nodes && (nat_lt 0 o && nat_lt o (node_words l))) (at l words (Cached (Node n o))) 0 (λ (x : ℕ). x < 2 ^ 64)
    (λ here. fits (address_of l (Cached (Node n o)))) (λ out. omega arith)

-- an anchor that is a name's key is the name's words
pub named_words : (l : Layout) (words : List ℕ) → ((k : ℕ) → slice_index words k < 2 ^ 64) → (n : ℕ) (name : List ℕ) → IsName name → anchor_in (spot_in l words n) ≡ key_of name
    → AreNameWords (anchor_words (spot_in l words n))
unfolding anchor_in key_of words_of
named_words l words fits n name named is =
    let small : (k : ℕ) → slice_index (words_of name) k < 2 ^ 64 = get_or-words_of_below name (name_bytes name named) in
    let told = words_told (spot_in l words n anchor_offset) (spot_in l words n (anchor_offset + 1)) (spot_in l words n (anchor_offset + 2)) (slice_index (words_of name) 0) (slice_index (words_of name) 1) (slice_index (words_of name) 2)
    (spot_fits l words fits n (anchor_offset + 1)) (spot_fits l words fits n (anchor_offset + 2)) (small 1) (small 2) is in
    (name, named, λ k. sym told.first k ∷ sym told.second k ∷ sym told.third k ∷ [])

-- A line that is OPEN for a node, and durably so, covers the node's anchor.
pub record IsOpenNumber (l : Layout) (words : List ℕ) (anchor j : ℕ) : Type 0 where
  pub state : (lines_in l words Cached).state j ≡ open_state
  pub covers : IsCover (lines_in l words Cached) (lines_in l words Durable) anchor j

pub open_covers : (l : Layout) (words : List ℕ) (e : HeldLine) (node : Grip) (t : Spot) → SureLine l words e → IsOpenOf e node → Tells node.seen t → AreNameWords (t anchor_offset ∷ t (anchor_offset + 1) ∷ t (anchor_offset + 2) ∷ [])
    → IsOpenNumber l words (anchor_in t) (line_number e)
open_covers l words e node t sure open_ told named =
    let both = clean_lines_are_durable l words e sure open_.durable in
    let now = line_in l words e.caller e.number in
    let safe = safe_line l words e.caller e.number in
    let state : (lines_in l words Cached).state (line_number e) ≡ open_state = line_tie l words e sure.here state_offset (omega arith) ∙ open_.open_state now both.0 in
    let safe_state : (lines_in l words Durable).state (line_number e) ≡ open_state = safe_tie l words e sure.here state_offset (omega arith) ∙ open_.open_state safe both.1 in
    record {
      state = state;
      covers = record {
        state = λ none. let no = sym state ∙ none in omega arith;
        anchor = anchor_line_tie l words e sure.here ∙ open_.anchor now t both.0 told named;
        safe_state = λ none. let no = sym safe_state ∙ none in omega arith;
        safe_anchor = anchor_safe_tie l words e sure.here ∙ open_.anchor safe t both.1 told named;
      };
    }
