-- Why a line is none of a script: a case for each reason, and their order.
use Rattle.std.specs.Prelude.{◌≡◌, ◌≢◌, ℕ, ◌<◌, ◌≤◌, ◌^◌, if◌then◌else◌, Option, Some, None, List, [], length, drop}
use Rattle.std.specs.Prelude.{codes, All, slice_index_or, IsSomeAnd}
use Rattle.std.specs.Option.{option_or}
use Rattle.std.specs.Str.{bytes_eq}
use Rattle.cat_key.specs.Names.{IsName}
use Rattle.cat_script.specs.Asks.{IsComment}
use Rattle.cat_script.specs.Lines.{words_of, IsLineByte}
use Rattle.cat_script.specs.Numbers.{IsSomeUpTo}
use Rattle.cat_script.specs.declared.line.Reason.{Reason}
use Rattle.cat_script.specs.declared.line.Reason.TheVariants as reason
use Rattle.cat_script.specs.declared.line.LineFault.{LineFault}
use Rattle.cat_script.specs.declared.line.LineFault.TheVariants as fault

-- What a line is about: its first word, or the second one of a call.
pub data Verb : Type 0 where
  Join : Verb
  Crash : Verb
  Updater : Verb
  Limit : Verb
  Put : Verb
  Get : Verb
  Del : Verb
  Scan : Verb

-- The word that says this.
abbrev pub verb_text : Verb → List ℕ
verb_text Join = codes "join"
verb_text Crash = codes "crash"
verb_text Updater = codes "updater"
verb_text Limit = codes "limit"
verb_text Put = codes "put"
verb_text Get = codes "get"
verb_text Del = codes "del"
verb_text Scan = codes "scan"

-- What the first word says, where it is one of these.
abbrev pub setting_verb : List ℕ → Option Verb
setting_verb word = if bytes_eq word (verb_text Join) then Some Join else
    if bytes_eq word (verb_text Crash) then Some Crash else
    if bytes_eq word (verb_text Updater) then Some Updater else
    if bytes_eq word (verb_text Limit) then Some Limit else None

-- What the second word of a call says.
abbrev pub call_verb : List ℕ → Option Verb
call_verb word = if bytes_eq word (verb_text Put) then Some Put else
    if bytes_eq word (verb_text Get) then Some Get else
    if bytes_eq word (verb_text Del) then Some Del else
    if bytes_eq word (verb_text Scan) then Some Scan else None

-- The word of this number, counted from 0; none is the empty word.
abbrev pub word_at : List (List ℕ) → ℕ → List ℕ
word_at words number = slice_index_or words number []

-- What the words are about: the first word says so, or else the second.
abbrev pub verb_of : List (List ℕ) → Option Verb
verb_of words = option_or (setting_verb (word_at words 0)) (call_verb (word_at words 1))

-- So many words has a line that is about this.
abbrev pub HasCount : Verb → ℕ → Type 0
HasCount Join count = count ≡ 1
HasCount Crash count = (4 ≤ count) × (count ≤ 19)
HasCount Updater count = count ≡ 2
HasCount Limit count = count ≡ 2
HasCount Put count = count ≡ 4
HasCount Get count = count ≡ 3
HasCount Del count = count ≡ 3
HasCount Scan count = count ≡ 4

-- The verbs of calls.
abbrev pub IsCallVerb : Verb → Type 0
IsCallVerb Join = ⊥
IsCallVerb Crash = ⊥
IsCallVerb Updater = ⊥
IsCallVerb Limit = ⊥
IsCallVerb Put = Unit {0}
IsCallVerb Get = Unit {0}
IsCallVerb Del = Unit {0}
IsCallVerb Scan = Unit {0}

-- The words that are to be numbers, other than a call's caller, are numbers within their limits.
abbrev pub HasNumbers : List (List ℕ) → Verb → Type 0
HasNumbers words Join = Unit {0}
HasNumbers words Crash = IsSomeUpTo (2 ^ 64) (word_at words 1) × All (IsSomeUpTo 1000000) (drop 2 words)
HasNumbers words Updater = IsSomeUpTo 100000 (word_at words 1)
HasNumbers words Limit = IsSomeUpTo (2 ^ 62) (word_at words 1)
HasNumbers words Put = IsSomeUpTo (2 ^ 64) (word_at words 3)
HasNumbers words Get = Unit {0}
HasNumbers words Del = Unit {0}
HasNumbers words Scan = IsSomeUpTo (2 ^ 64) (word_at words 3)

-- Where words have a reason, each looked at alone.
abbrev pub WordsHave : List (List ℕ) → Reason → Type 0
WordsHave words reason.Byte = ⊥
WordsHave words reason.Verb = verb_of words ≡ None
WordsHave words reason.Words = IsSomeAnd (verb_of words) (λ verb. ¬ HasCount verb (length words))
WordsHave words reason.Caller = IsSomeAnd (verb_of words) (λ verb. IsCallVerb verb × ¬ IsSomeUpTo 15 (word_at words 0))
WordsHave words reason.Name = IsSomeAnd (verb_of words) (λ verb. IsCallVerb verb × ¬ IsName (word_at words 2))
WordsHave words reason.Number = IsSomeAnd (verb_of words) (λ verb. ¬ HasNumbers words verb)

-- Where a line has a reason, each looked at alone.
abbrev pub HasReason : List ℕ → Reason → Type 0
HasReason line reason.Byte = ¬ All IsLineByte line
HasReason line reason.Verb = WordsHave (words_of line) reason.Verb
HasReason line reason.Words = WordsHave (words_of line) reason.Words
HasReason line reason.Caller = WordsHave (words_of line) reason.Caller
HasReason line reason.Name = WordsHave (words_of line) reason.Name
HasReason line reason.Number = WordsHave (words_of line) reason.Number

-- The order in which the reasons are tried.
abbrev pub rank_of : Reason → ℕ
rank_of reason.Byte = 0
rank_of reason.Verb = 1
rank_of reason.Words = 2
rank_of reason.Caller = 3
rank_of reason.Name = 4
rank_of reason.Number = 5

-- The words have this reason, and none that is tried earlier.
pub record HaveFirst (words : List (List ℕ)) (why : Reason) : Type 0 where
  pub has : WordsHave words why
  pub first : (earlier : Reason) → rank_of earlier < rank_of why → ¬ WordsHave words earlier

-- The line is neither blank nor a comment, and has this reason and none that is tried earlier.
pub record IsFirstReason (line : List ℕ) (why : Reason) : Type 0 where
  pub some : words_of line ≢ []
  pub asks : ¬ IsComment (words_of line)
  pub has : HasReason line why
  pub first : (earlier : Reason) → rank_of earlier < rank_of why → ¬ HasReason line earlier

-- What is said by a fault of these words; want of memory says nothing.
abbrev pub FailsBy : (Reason → Type 0) → LineFault → Type 0
FailsBy P (fault.Faulty why) = P why
FailsBy P fault.NoMemory = Unit {0}
