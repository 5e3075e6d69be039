use Rattle.std.proofs.Common.{◌≡◌, ℕ, ◌*◌, ◌<◌, rules, arith, ap, length, get_or}
use Rattle.pm_words.specs.Locations.{image_words}
use Rattle.pm_words.specs.Bytes.{words_in, layout_in}
use Rattle.pm_words.proofs.Spelled.{bytes_back, spells_image}
use Rattle.pm_words.proofs.image.Image.read.Goals as goal

pub of_words-requires : goal.of_words-requires
of_words-requires c =
    let small : (i : ℕ) → get_or c.args.bytes.now i 0 < 256 = λ i. omega (arith, c.type_inv.bytes i) in
    let same = ap image_words c.in_ok-layout.ensures.layout.1 in
    let size : length c.args.bytes.now ≡ 8 * image_words (layout_in c.args.bytes.now) = omega (arith, c.image_words.ensures.words, same, c.if-bytes-image_words.false) in
    let words : c.in_ok-words.words.items ≡ words_in c.args.bytes.now = search rules in
    rw (words, c.in_ok-layout.ensures.layout.1) (spells_image c.args.bytes.now (c.in_ok-layout.ensures.layout.0, size) small)

pub returns-clause-same_bytes : goal.returns-clause-same_bytes
returns-clause-same_bytes c =
    let small : (i : ℕ) → get_or c.args.bytes.now i 0 < 256 = λ i. omega (arith, c.type_inv.bytes i) in
    let words : c.of_words.result.words ≡ words_in c.args.bytes.now = search rules in
    rw words (bytes_back c.args.bytes.now (image_words c.in_ok-layout.layout) (omega (arith, c.image_words.ensures.words, c.if-bytes-image_words.false)) small)
