use Rattle.std.proofs.Common.{◌≡◌, ◌∙◌, ap}
use Rattle.std.proofs.lemmas.List.{take_all}
use Rattle.pm_words.specs.Bytes.{bytes_of}
use Rattle.pm_words.proofs.Spelled.{image_back, image_has_length, no_fault}
use Rattle.pm_words.proofs.image.Image.write.Goals as goal

pub returns-clause-reads_back : goal.returns-clause-reads_back
returns-clause-reads_back c =
    let all : c.loop-word.bytes.items ≡ bytes_of c.args.self.now.words =
    c.loop-word.invariant ∙ ap bytes_of (take_all c.loop-word.word-index c.words-words.result.now c.loop-word-test.false ∙ c.words-words.ensures.words) in
    rw all (image_back c.args.self.now.layout c.args.self.now.words c.words-words.ensures.image)

pub returns-clause-no_fault : goal.returns-clause-no_fault
returns-clause-no_fault c =
    let all : c.loop-word.bytes.items ≡ bytes_of c.args.self.now.words =
    c.loop-word.invariant ∙ ap bytes_of (take_all c.loop-word.word-index c.words-words.result.now c.loop-word-test.false ∙ c.words-words.ensures.words) in
    rw all (no_fault (bytes_of c.args.self.now.words) (image_has_length c.args.self.now.layout c.args.self.now.words c.words-words.ensures.image))
