use Rattle.std.proofs.Common.{◌==◌, ℕ, Bool, cond, List, Option, Some, None, sym, subst, ap, ◌∙◌}
use Rattle.std.proofs.lemmas.Bool.{eq-eqb, ne_eqb, and_from, and_left, and_right, false≢true}
use Rattle.std.specs.Int.{bit_at}
use Rattle.cat_key.specs.Names.{AreNameWords, bytes_of}
use Rattle.pm_words.specs.Offsets.{bitmap_offset}
use Rattle.data_node.specs.Lists.{number_of, target_from}
use Rattle.data_node.specs.Spots.{name_words}
use Rattle.image_rules.specs.Nodes.{image_spot, image_list, image_range}
use Rattle.image_pairs.proofs.PairWalks.{range_of_words, live_named, found_name}
use Rattle.image_pairs.proofs.names.name_in.Goals as goal

pub returns-then-not-is_live_in : goal.returns-then-not-is_live_in
returns-then-not-is_live_in c =
    let l = c.args.image.now.layout in
    let s = image_spot l c.args.image.now.words c.args.node in
    let text = bytes_of (name_words s c.args.slot) in
    let clear = ne_eqb (bit_at (s bitmap_offset) c.args.slot) 1 (λ live. false≢true (sym c.if-not-is_live_in.true ∙ c.is_live_in.ensures.1 live)) in
    let found : Bool → Option (List ℕ) = λ b. cond b (Some text) None in
    sym (ap found (and_left _ (image_range l c.args.image.now.words c.args.node text) clear))

pub returns-then-not-has_in_range : goal.returns-then-not-has_in_range
returns-then-not-has_in_range c =
    let l = c.args.image.now.layout in
    let image = c.args.image.now.words in
    let s = image_spot l image c.args.node in
    let text = bytes_of (name_words s c.args.slot) in
    let live = c.is_live_in.ensures.0 c.if-not-is_live_in.false in
    let told = sym (range_of_words l image c.requires.sound c.args.node c.args.slot c.requires.listed c.requires.slot live)
    ∙ ap (λ (words : List ℕ). target_from 0 (image_list l image) (number_of words) == c.args.node) (sym c.name_in-words.ensures) ∙ sym c.has_in_range.ensures in
    let found : Bool → Option (List ℕ) = λ b. cond b (Some text) None in
    sym (ap found (and_right (bit_at (s bitmap_offset) c.args.slot == 1) _ (told ∙ c.if-not-has_in_range.true)))

pub returns : goal.returns
returns c =
    let l = c.args.image.now.layout in
    let image = c.args.image.now.words in
    let s = image_spot l image c.args.node in
    let words = name_words s c.args.slot in
    let live = c.is_live_in.ensures.0 c.if-not-is_live_in.false in
    let told = sym (range_of_words l image c.requires.sound c.args.node c.args.slot c.requires.listed c.requires.slot live)
    ∙ ap (λ (words : List ℕ). target_from 0 (image_list l image) (number_of words) == c.args.node) (sym c.name_in-words.ensures) ∙ sym c.has_in_range.ensures in
    let named = subst AreNameWords (sym c.name_in-words.ensures) (live_named l image c.requires.sound c.args.node c.args.slot c.requires.listed c.requires.slot live) in
    let found : Bool → Option (List ℕ) = λ b. cond b (Some (bytes_of words)) None in
    found_name c.name_in-words.result c.of_words.result (c.of_words.ensures.some.1 named) c.of_words.ensures.name c.of_words.ensures.words
    ∙ ap (λ (words : List ℕ). Some (bytes_of words)) c.name_in-words.ensures
    ∙ sym (ap found (and_from _ _ (eq-eqb (bit_at (s bitmap_offset) c.args.slot) 1 live) (told ∙ c.if-not-has_in_range.false)))
