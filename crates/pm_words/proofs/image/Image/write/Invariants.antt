use Rattle.std.proofs.Common.{◌≡◌, take}
use Rattle.pm_words.specs.Bytes.{bytes_of}
use Rattle.pm_words.proofs.image.Image.write.Given as goal

-- the bytes are those of the words so far
abbrev pub invariant-loop-word : goal.invariant-loop-word
invariant-loop-word l = l.bytes.items ≡ bytes_of (take l.word-index l.words)
