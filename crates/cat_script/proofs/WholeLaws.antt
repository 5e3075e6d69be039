-- A line asks something or has a first reason; a text that isn't too long is a script or has a first fault.
use Rattle.std.proofs.Common.{◌≡◌, ℕ, ◌+◌, ◌<◌, ◌≤◌, ◌^◌, ◌⊎◌, inl, inr, Bool, true, false, cond, List, [], ◌∷◌, ◌++◌, length, drop, codes, Option, Some, None, refl, sym, ap, subst, ◌∙◌, arith, append_assoc, sum_by}
use Rattle.std.proofs.lemmas.Bool.{cases_lt}
use Rattle.std.proofs.lemmas.List.{append-nil, length_push}
use Rattle.std.proofs.lemmas.List.Elements.{recursion_from_All}
use Rattle.std.proofs.lemmas.Slice.Eq.{bytes_eq-Decides}
use Rattle.std.proofs.lemmas.Slice.Zip.{all_zipped_more, AllZip-long}
use Rattle.std.specs.List.{AllZip, AllByRecursion}
use Rattle.std.specs.Option.{option_or}
use Rattle.std.specs.Prelude.{IsSomeAnd}
use Rattle.std.specs.Str.{bytes_eq}
use Rattle.cat_key.specs.Names.{IsName}
use Rattle.cat_history.specs.declared.op.Op.{Op}
use Rattle.cat_history.specs.declared.op.Op.TheVariants.{Put, Get, Del, Scan}
use Rattle.cat_history.specs.declared.plan.CrashPlan.{CrashPlan}
use Rattle.cat_history.specs.declared.plan.RoundPlan.{RoundPlan}
use Rattle.cat_script.specs.Asks.{AsksFor, IsComment, Says, IsLine}
use Rattle.cat_script.specs.Laws.{IsScriptOrHasFault}
use Rattle.cat_script.specs.Limits.{KeepLimits, end_count, call_count, scan_count}
use Rattle.cat_script.specs.Lines.{lines_of, words_of}
use Rattle.cat_script.specs.Numbers.{IsUpTo, IsSomeUpTo}
use Rattle.cat_script.specs.Reasons.{verb_text, setting_verb, call_verb, word_at, verb_of, HasCount, IsCallVerb, HasNumbers, HasReason, rank_of, IsFirstReason}
use Rattle.cat_script.specs.Rounds.{calls_in, settings_in, GoesOn, EndsBy, AsksRound, AreEnded, HasLast, AreRounds}
use Rattle.cat_script.specs.Scripts.{IsScript, IsLineFault, IsFirstFault, numbered}
use Rattle.cat_script.specs.declared.fault.ScriptFault.{ScriptFault}
use Rattle.cat_script.specs.declared.fault.ScriptFault.TheVariants as fault
use Rattle.cat_script.specs.declared.line.Line.{Line}
use Rattle.cat_script.specs.declared.line.Line.TheVariants.{Blank, Call, Join, Crash, Updater, Limit}
use Rattle.cat_script.specs.declared.line.Reason.{Reason}
use Rattle.cat_script.specs.declared.line.Reason.TheVariants as reason
use Rattle.cat_script.specs.declared.script.Script.{Script}
use Rattle.cat_script.specs.Reasons.{Verb}
use Rattle.cat_script.specs.Reasons as verb
use Rattle.cat_script.proofs.DecisionLemmas.{IsDecided, at_most, reason_decided, comment_decided, empty_decided, good_bytes, good_verb, good_count, good_caller, good_name, good_numbers}
use Rattle.cat_script.proofs.LineLaws.{rank_one}
use Rattle.cat_script.proofs.RoundLemmas.{going_more, ended_more}

-- which way a test went
chosen : {X : Type 0} (t : Bool) (x y z : X) → cond t x y ≡ z → ((t ≡ true) × (x ≡ z)) ⊎ (y ≡ z)
chosen true x y z is = inl (refl, is)
chosen false x y z is = inr is

same_verb : (a b : Verb) → Some a ≡ Some b → a ≡ b
same_verb a b is = cc

-- a verb that a word says by this test, or by those that come after it
said_by : (word : List ℕ) (here about : Verb) (rest : Option Verb) (P : Verb → Type 0) → cond (bytes_eq word (verb_text here)) (Some here) rest ≡ Some about → P here →
    (rest ≡ Some about → P about × (word ≡ verb_text about)) → P about × (word ≡ verb_text about)
said_by word here about rest P is holds behind = go (chosen (bytes_eq word (verb_text here)) (Some here) rest (Some about) is) where
  go : ((bytes_eq word (verb_text here) ≡ true) × (Some here ≡ Some about)) ⊎ (rest ≡ Some about) → P about × (word ≡ verb_text about)
  go (inl here_is) =
      let same = same_verb here about here_is.1 in (subst P same holds, (bytes_eq-Decides word (verb_text here)).0 here_is.0 ∙ ap verb_text same)
  go (inr later) = behind later

-- The verbs of lines that are no calls.
abbrev IsSetting : Verb → Type 0
IsSetting about = ¬ IsCallVerb about

none_said : (word : List ℕ) (about : Verb) (P : Verb → Type 0) → ◌≡◌ {A = Option Verb} None (Some about) → P about × (word ≡ verb_text about)
none_said word about P is = absurd cc

setting_said : (word : List ℕ) (about : Verb) → setting_verb word ≡ Some about → IsSetting about × (word ≡ verb_text about)
setting_said word about is =
    said_by word verb.Join about _ IsSetting is (λ c. c) (λ is. said_by word verb.Crash about _ IsSetting is (λ c. c)
    (λ is. said_by word verb.Updater about _ IsSetting is (λ c. c) (λ is. said_by word verb.Limit about None IsSetting is (λ c. c) (none_said word about IsSetting))))

call_said : (word : List ℕ) (about : Verb) → call_verb word ≡ Some about → IsCallVerb about × (word ≡ verb_text about)
call_said word about is =
    said_by word verb.Put about _ IsCallVerb is tt (λ is. said_by word verb.Get about _ IsCallVerb is tt
    (λ is. said_by word verb.Del about _ IsCallVerb is tt (λ is. said_by word verb.Scan about None IsCallVerb is tt (none_said word about IsCallVerb))))

either_said : (o p : Option Verb) (about : Verb) → option_or o p ≡ Some about → (o ≡ Some about) ⊎ (p ≡ Some about)
either_said None p about is = inr is
either_said (Some v) p about is = inl is

-- the word that tells what a line is about
about_first : (words : List (List ℕ)) (about : Verb) → verb_of words ≡ Some about → IsSetting about → word_at words 0 ≡ verb_text about
about_first words about is sets = go (either_said (setting_verb (word_at words 0)) (call_verb (word_at words 1)) about is) where
  go : (setting_verb (word_at words 0) ≡ Some about) ⊎ (call_verb (word_at words 1) ≡ Some about) → word_at words 0 ≡ verb_text about
  go (inl first) = (setting_said (word_at words 0) about first).1
  go (inr second) = absurd (sets (call_said (word_at words 1) about second).0)

about_second : (words : List (List ℕ)) (about : Verb) → verb_of words ≡ Some about → IsCallVerb about → word_at words 1 ≡ verb_text about
about_second words about is calls = go (either_said (setting_verb (word_at words 0)) (call_verb (word_at words 1)) about is) where
  go : (setting_verb (word_at words 0) ≡ Some about) ⊎ (call_verb (word_at words 1) ≡ Some about) → word_at words 1 ≡ verb_text about
  go (inl first) = absurd ((setting_said (word_at words 0) about first).0 calls)
  go (inr second) = (call_said (word_at words 1) about second).1

-- words by their count
one_word : (ws : List (List ℕ)) → length ws ≡ 1 → ws ≡ word_at ws 0 ∷ []
one_word [] is = absurd (omega (arith, is))
one_word (a ∷ []) is = refl
one_word (a ∷ b ∷ ws) is = absurd (omega (arith, is))

more_words : (ws : List (List ℕ)) → 2 ≤ length ws → ws ≡ word_at ws 0 ∷ word_at ws 1 ∷ drop 2 ws
more_words [] is = absurd (omega (arith, is))
more_words (a ∷ []) is = absurd (omega (arith, is))
more_words (a ∷ b ∷ ws) is = refl

no_more : (ws : List (List ℕ)) → length ws ≡ 0 → ws ≡ []
no_more [] is = refl
no_more (a ∷ ws) is = absurd (omega (arith, is))

two_words : (ws : List (List ℕ)) → length ws ≡ 2 → ws ≡ word_at ws 0 ∷ word_at ws 1 ∷ []
two_words [] is = absurd (omega (arith, is))
two_words (a ∷ []) is = absurd (omega (arith, is))
two_words (a ∷ b ∷ ws) is = ap (λ (r : List (List ℕ)). a ∷ b ∷ r) (no_more ws (omega (arith, is)))

three_words : (ws : List (List ℕ)) → length ws ≡ 3 → ws ≡ word_at ws 0 ∷ word_at ws 1 ∷ word_at ws 2 ∷ []
three_words [] is = absurd (omega (arith, is))
three_words (a ∷ []) is = absurd (omega (arith, is))
three_words (a ∷ b ∷ []) is = absurd (omega (arith, is))
three_words (a ∷ b ∷ c ∷ ws) is = ap (λ (r : List (List ℕ)). a ∷ b ∷ c ∷ r) (no_more ws (omega (arith, is)))

four_words : (ws : List (List ℕ)) → length ws ≡ 4 → ws ≡ word_at ws 0 ∷ word_at ws 1 ∷ word_at ws 2 ∷ word_at ws 3 ∷ []
four_words [] is = absurd (omega (arith, is))
four_words (a ∷ []) is = absurd (omega (arith, is))
four_words (a ∷ b ∷ []) is = absurd (omega (arith, is))
four_words (a ∷ b ∷ c ∷ []) is = absurd (omega (arith, is))
four_words (a ∷ b ∷ c ∷ d ∷ ws) is = ap (λ (r : List (List ℕ)). a ∷ b ∷ c ∷ d ∷ r) (no_more ws (omega (arith, is)))

-- the numbers that words write
numbers_said : (most : ℕ) (words : List (List ℕ)) → AllByRecursion (IsSomeUpTo most) words → (ns : List ℕ) × AllZip (IsUpTo most) words ns
numbers_said most [] all = ([], tt)
numbers_said most (word ∷ words) all = let rest = numbers_said most words all.1 in (all.0.0 ∷ rest.0, (all.0.1, rest.1))

-- a list with its last number apart
last_apart : (n : ℕ) (ns : List ℕ) → (front : List ℕ) × (last : ℕ) × (n ∷ ns ≡ front ++ last ∷ [])
last_apart n [] = ([], n, refl)
last_apart n (m ∷ ns) = let rest = last_apart m ns in (n ∷ rest.0, rest.1, ap (λ (l : List ℕ). n ∷ l) rest.2)

some_last : (ns : List ℕ) → 1 ≤ length ns → (front : List ℕ) × (last : ℕ) × (ns ≡ front ++ last ∷ [])
some_last [] some = absurd (omega (arith, some))
some_last (n ∷ ns) some = last_apart n ns

-- a crash line's words
crash_said : (words : List (List ℕ)) → word_at words 0 ≡ codes "crash" → HasCount verb.Crash (length words) → HasNumbers words verb.Crash → (said : Line) × Says words said
crash_said words first count numbers =
    let budgets = numbers_said 1000000 (drop 2 words) (recursion_from_All (IsSomeUpTo 1000000) (drop 2 words) numbers.1) in
    let shape = more_words words (omega (arith, count.0)) in
    let long = AllZip-long (IsUpTo 1000000) (drop 2 words) budgets.0 budgets.1 in
    let all = ap length shape in
    let few = count.0 in
    let many = count.1 in
    let parts = some_last budgets.0 (omega arith) in
    let pushed = ap length parts.2 ∙ length_push parts.0 parts.1 in (
      Crash (record { seed = numbers.0.0; budgets = parts.0; updater_budget = parts.1 }),
      (
        word_at words 1,
        drop 2 words,
        numbers.0.1.0,
        subst (AllZip (IsUpTo 1000000) (drop 2 words)) parts.2 budgets.1,
        omega arith,
        omega arith,
        shape ∙ ap (λ (w : List ℕ). w ∷ word_at words 1 ∷ drop 2 words) first,
      ),
    )

-- a call by the caller that its first word tells
called : (words : List (List ℕ)) (op : Op) → IsSomeUpTo 15 (word_at words 0) → AsksFor words (word_at words 0) op → (said : Line) × Says words said
called words op by asks = (Call by.0 op, (word_at words 0, by.1, asks))

-- words that have no reason ask something
asked_by : (words : List (List ℕ)) (about : Verb) → verb_of words ≡ Some about → HasCount about (length words) → (IsCallVerb about → IsSomeUpTo 15 (word_at words 0)) →
    (IsCallVerb about → IsName (word_at words 2)) → HasNumbers words about → (said : Line) × Says words said
asked_by words verb.Join is count caller name numbers = (Join, one_word words count ∙ ap (λ (w : List ℕ). w ∷ []) (about_first words verb.Join is (λ c. c)))
asked_by words verb.Crash is count caller name numbers = crash_said words (about_first words verb.Crash is (λ c. c)) count numbers
asked_by words verb.Updater is count caller name numbers =
    (Updater numbers.0, (word_at words 1, numbers.1, two_words words count ∙ ap (λ (w : List ℕ). w ∷ word_at words 1 ∷ []) (about_first words verb.Updater is (λ c. c))))
asked_by words verb.Limit is count caller name numbers =
    (Limit numbers.0, (word_at words 1, numbers.1, two_words words count ∙ ap (λ (w : List ℕ). w ∷ word_at words 1 ∷ []) (about_first words verb.Limit is (λ c. c))))
asked_by words verb.Put is count caller name numbers =
    let told = four_words words count ∙ ap (λ (w : List ℕ). word_at words 0 ∷ w ∷ word_at words 2 ∷ word_at words 3 ∷ []) (about_second words verb.Put is tt) in
    called words (Put (word_at words 2) numbers.0) (caller tt) (name tt, (word_at words 3, numbers.1.0, told))
asked_by words verb.Get is count caller name numbers =
    let told = three_words words count ∙ ap (λ (w : List ℕ). word_at words 0 ∷ w ∷ word_at words 2 ∷ []) (about_second words verb.Get is tt) in
    called words (Get (word_at words 2)) (caller tt) (name tt, told)
asked_by words verb.Del is count caller name numbers =
    let told = three_words words count ∙ ap (λ (w : List ℕ). word_at words 0 ∷ w ∷ word_at words 2 ∷ []) (about_second words verb.Del is tt) in
    called words (Del (word_at words 2)) (caller tt) (name tt, told)
asked_by words verb.Scan is count caller name numbers =
    let told = four_words words count ∙ ap (λ (w : List ℕ). word_at words 0 ∷ w ∷ word_at words 2 ∷ word_at words 3 ∷ []) (about_second words verb.Scan is tt) in
    called words (Scan (word_at words 2) numbers.0) (caller tt) (name tt, (word_at words 3, numbers.1.0, told))

-- The line has none of the reasons that are tried before this turn.
abbrev HasNoneBefore : List ℕ → ℕ → Type 0
HasNoneBefore line turn = (earlier : Reason) → rank_of earlier < turn → ¬ HasReason line earlier

-- It has no reason, or one that is the first.
abbrev IsSought : List ℕ → Type 0
IsSought line = ((why : Reason) → ¬ HasReason line why) ⊎ ((why : Reason) × HasReason line why × HasNoneBefore line (rank_of why))

none_more : (line : List ℕ) (why : Reason) → HasNoneBefore line (rank_of why) → ¬ HasReason line why → HasNoneBefore line (rank_of why + 1)
none_more line why none here earlier less has = go (cases_lt (rank_of earlier) (rank_of why)) where
  go : (rank_of earlier < rank_of why) ⊎ (rank_of why ≤ rank_of earlier) → ⊥
  go (inl before) = none earlier before has
  go (inr behind) = here (subst (HasReason line) (rank_one earlier why (omega (arith, less, behind))) has)

-- a reason that is tried, and those behind it
tried : (line : List ℕ) (why : Reason) → (HasNoneBefore line (rank_of why + 1) → IsSought line) → HasNoneBefore line (rank_of why) → IsSought line
tried line why later none = go (reason_decided line why) where
  go : IsDecided (HasReason line why) → IsSought line
  go (inl has) = inr (why, has, none)
  go (inr fails) = later (none_more line why none fails)

all_ranks : (why : Reason) → rank_of why < 6
all_ranks reason.Byte = omega arith
all_ranks reason.Verb = omega arith
all_ranks reason.Words = omega arith
all_ranks reason.Caller = omega arith
all_ranks reason.Name = omega arith
all_ranks reason.Number = omega arith

sought : (line : List ℕ) → IsSought line
sought line =
    tried line reason.Byte (tried line reason.Verb (tried line reason.Words (tried line reason.Caller (tried line reason.Name (tried line reason.Number
    (λ none. inl (λ why. none why (all_ranks why)))))))) (λ earlier less has. absurd (omega (arith, less)))

-- a line asks something, or has a first reason
pub line_or_reason : (line : List ℕ) → ((said : Line) × IsLine line said) ⊎ ((why : Reason) × IsFirstReason line why)
line_or_reason line = blank (empty_decided (words_of line)) (comment_decided (words_of line)) (sought line) where
  blank : IsDecided (words_of line ≡ []) → IsDecided (IsComment (words_of line)) → IsSought line → ((said : Line) × IsLine line said) ⊎ ((why : Reason) × IsFirstReason line why)
  blank (inl none) comment found = inl (Blank, (inl none, inl refl))
  blank (inr some) (inl comment) found = inl (Blank, (inr comment, inl refl))
  blank (inr some) (inr asks) (inr found) = inr (found.0, record { some = some; asks = asks; has = found.1; first = found.2 })
  blank (inr some) (inr asks) (inl none) =
      let about = good_verb (verb_of (words_of line)) (none reason.Verb) in
      let tells : (Q : Verb → Type 0) → ¬ IsSomeAnd (verb_of (words_of line)) Q → ¬ Q about.0 = λ Q fails. subst (λ (o : Option Verb). ¬ IsSomeAnd o Q) about.1 fails in
      let count = good_count about.0 (length (words_of line)) (tells (λ v. ¬ HasCount v (length (words_of line))) (none reason.Words)) in
      let caller = good_caller about.0 (word_at (words_of line) 0) (tells (λ v. IsCallVerb v × ¬ IsSomeUpTo 15 (word_at (words_of line) 0)) (none reason.Caller)) in
      let name = good_name about.0 (word_at (words_of line) 2) (tells (λ v. IsCallVerb v × ¬ IsName (word_at (words_of line) 2)) (none reason.Name)) in
      let numbers = good_numbers (words_of line) about.0 (tells (λ v. ¬ HasNumbers (words_of line) v) (none reason.Number)) in
      let asked = asked_by (words_of line) about.0 about.1 count caller name numbers in
      inl (asked.0, (asked.1, inr (good_bytes line (none reason.Byte))))

-- Lines that ask something and keep the limits.
abbrev AreSaid : List (List ℕ) → List Line → Type 0
AreSaid lines said = AllZip IsLine lines said × KeepLimits said

-- The first line with a fault, as `IsFirstFault` has it.
record HaveFault (lines : List (List ℕ)) (what : ScriptFault) : Type 0 where
  before : List (List ℕ)
  line : List ℕ
  after : List (List ℕ)
  cut : lines ≡ before ++ line ∷ after
  said : List Line
  are : AreSaid before said
  fault : IsLineFault said line what

-- All lines ask something, or one is the first with a fault.
abbrev AreSaidOrFaulty : List (List ℕ) → Type 0
AreSaidOrFaulty lines = ((said : List Line) × AreSaid lines said) ⊎ ((what : ScriptFault) × HaveFault lines what)

-- one more line, and those behind it
line_more : (before : List (List ℕ)) (line : List ℕ) (after : List (List ℕ)) (said : List Line) → AreSaid before said →
    ((asked : Line) → AreSaid (before ++ line ∷ []) (said ++ asked ∷ []) → AreSaidOrFaulty ((before ++ line ∷ []) ++ after)) → AreSaidOrFaulty (before ++ line ∷ after)
line_more before line after said are behind = reads (line_or_reason line) where
  faulty : (what : ScriptFault) → IsLineFault said line what → AreSaidOrFaulty (before ++ line ∷ after)
  faulty what wrong = inr (what, record { before = before; line = line; after = after; cut = refl; said = said; are = are; fault = wrong })

  limited : (asked : Line) → IsLine line asked → IsDecided (sum_by end_count (said ++ asked ∷ []) ≤ 1000) → IsDecided (sum_by call_count (said ++ asked ∷ []) ≤ 100000) →
      IsDecided (sum_by scan_count (said ++ asked ∷ []) ≤ 1000000) → AreSaidOrFaulty (before ++ line ∷ after)
  limited asked is (inl ends) (inl calls) (inl scans) =
      subst AreSaidOrFaulty (append_assoc before (line ∷ []) after)
      (behind asked (all_zipped_more IsLine before said line asked are.0 is, record { ends = ends; calls = calls; scans = scans }))
  limited asked is (inl ends) (inl calls) (inr more) = faulty (fault.Scans (length (said ++ asked ∷ []))) (asked, is, (refl, ends, calls, more))
  limited asked is (inl ends) (inr more) scans = faulty (fault.Calls (length (said ++ asked ∷ []))) (asked, is, (refl, ends, more))
  limited asked is (inr more) calls scans = faulty (fault.Rounds (length (said ++ asked ∷ []))) (asked, is, (refl, more))

  reads : ((asked : Line) × IsLine line asked) ⊎ ((why : Reason) × IsFirstReason line why) → AreSaidOrFaulty (before ++ line ∷ after)
  reads (inl asks) =
      limited asks.0 asks.1 (at_most (sum_by end_count (said ++ asks.0 ∷ [])) 1000) (at_most (sum_by call_count (said ++ asks.0 ∷ [])) 100000)
      (at_most (sum_by scan_count (said ++ asks.0 ∷ [])) 1000000)
  reads (inr wrong) = faulty (fault.Line (length said + 1) wrong.0) (refl, wrong.1)

lines_said : (before after : List (List ℕ)) (said : List Line) → AreSaid before said → AreSaidOrFaulty (before ++ after)
lines_said before [] said are = inl (said, subst (λ (ls : List (List ℕ)). AreSaid ls said) (sym (append-nil before)) are)
lines_said before (line ∷ after) said are =
    line_more before line after said are (λ asked more. lines_said (before ++ line ∷ []) after (said ++ asked ∷ []) more)

-- Lines, cut behind the last that ends a round.
record AreCut (lines : List Line) : Type 0 where
  closed : List Line
  rest : List Line
  plans : List RoundPlan
  cut : lines ≡ closed ++ rest
  ended : AreEnded [] closed plans
  going : AllByRecursion GoesOn rest

-- what the round is asked that ends behind these lines
plan_of : (closed rest : List Line) → Option CrashPlan → RoundPlan
plan_of closed rest crash =
    let sets = settings_in (64, 2 ^ 62) (closed ++ rest) in record { ops = calls_in rest; updater = sets.0; limit = sets.1; crash = crash }

plan_asks : (closed rest : List Line) (crash : Option CrashPlan) → AllByRecursion GoesOn rest → AsksRound closed rest (plan_of closed rest crash)
unfolding plan_of
plan_asks closed rest crash going = record { going = going; ops = refl; updater = refl; limit = refl }

plan_ends : (closed rest : List Line) (crash : Option CrashPlan) → (plan_of closed rest crash).crash ≡ crash
unfolding plan_of
plan_ends closed rest crash = refl

-- a line that ends no round
cut_on : (lines : List Line) (line : Line) → GoesOn line → AreCut lines → AreCut (lines ++ line ∷ [])
cut_on lines line goes are = record {
  closed = are.closed;
  rest = are.rest ++ line ∷ [];
  plans = are.plans;
  cut = ap (λ (ls : List Line). ls ++ line ∷ []) are.cut ∙ append_assoc are.closed are.rest (line ∷ []);
  ended = are.ended;
  going = going_more are.rest line are.going goes;
}

-- a line that ends one
cut_here : (lines : List Line) (line : Line) (crash : Option CrashPlan) → EndsBy line crash → AreCut lines → AreCut (lines ++ line ∷ [])
cut_here lines line crash ends are =
    let plan = plan_of are.closed are.rest crash in record {
      closed = (are.closed ++ are.rest) ++ line ∷ [];
      rest = [];
      plans = are.plans ++ plan ∷ [];
      cut = ap (λ (ls : List Line). ls ++ line ∷ []) are.cut ∙ sym (append-nil ((are.closed ++ are.rest) ++ line ∷ []));
      ended = ended_more [] are.closed are.rest line are.plans plan are.ended (plan_asks are.closed are.rest crash are.going)
          (subst (EndsBy line) (sym (plan_ends are.closed are.rest crash)) ends);
      going = tt;
    }

cut_more : (lines : List Line) (line : Line) → AreCut lines → AreCut (lines ++ line ∷ [])
cut_more lines Blank are = cut_on lines Blank tt are
cut_more lines (Call caller op) are = cut_on lines (Call caller op) tt are
cut_more lines Join are = cut_here lines Join None refl are
cut_more lines (Crash plan) are = cut_here lines (Crash plan) (Some plan) refl are
cut_more lines (Updater turns) are = cut_on lines (Updater turns) tt are
cut_more lines (Limit limit) are = cut_on lines (Limit limit) tt are

cut_all : (done rest : List Line) → AreCut done → AreCut (done ++ rest)
cut_all done [] are = subst AreCut (sym (append-nil done)) are
cut_all done (line ∷ rest) are = subst AreCut (append_assoc done (line ∷ []) rest) (cut_all (done ++ line ∷ []) rest (cut_more done line are))

-- whether the end of a script ends one more round
last_decided : (closed rest : List Line) → IsDecided (HasLast closed rest)
last_decided closed rest = go (empty_decided (calls_in rest)) (empty_decided closed) where
  go : IsDecided (calls_in rest ≡ []) → IsDecided (closed ≡ []) → IsDecided (HasLast closed rest)
  go (inr calls) none = inl (inl calls)
  go (inl without) (inl none) = inl (inr none)
  go (inl without) (inr some) = inr (λ has. neither has) where
    neither : HasLast closed rest → ⊥
    neither (inl calls) = calls without
    neither (inr none) = some none

-- any lines make rounds
pub some_rounds : (lines : List Line) → (plans : List RoundPlan) × AreRounds lines plans
some_rounds lines = go (last_decided are.closed are.rest) where
  are : AreCut lines
  are = cut_all [] lines (record { closed = []; rest = []; plans = []; cut = refl; ended = refl; going = tt })

  go : IsDecided (HasLast are.closed are.rest) → (plans : List RoundPlan) × AreRounds lines plans
  go (inr ended) = (are.plans, record { closed = are.closed; rest = are.rest; cut = are.cut; going = are.going; finish = inl (ended, are.ended) })
  go (inl last) = (
    are.plans ++ plan_of are.closed are.rest None ∷ [],
    record {
      closed = are.closed;
      rest = are.rest;
      cut = are.cut;
      going = are.going;
      finish = inr (last, are.plans, plan_of are.closed are.rest None, refl, are.ended, plan_asks are.closed are.rest None are.going, plan_ends are.closed are.rest None);
    },
  )

pub script_or_fault : IsScriptOrHasFault
script_or_fault bytes short = go (lines_said [] (lines_of bytes) [] (tt, record { ends = omega arith; calls = omega arith; scans = omega arith })) where
  go : AreSaidOrFaulty (lines_of bytes) → ((script : Script) × IsScript bytes script) ⊎ ((what : ScriptFault) × IsFirstFault bytes what)
  go (inl asked) =
      let rounds = some_rounds asked.0 in
      inl (
        record { rounds = rounds.0; lines = numbered 1 asked.0 },
        record {
          short = short;
          said = asked.0;
          lines = asked.1.0;
          limits = asked.1.1;
          rounds = rounds.1;
          told = refl;
        },
      )
  go (inr wrong) = inr (
    wrong.0,
    record {
      short = short;
      before = wrong.1.before;
      line = wrong.1.line;
      after = wrong.1.after;
      cut = wrong.1.cut;
      said = wrong.1.said;
      lines = wrong.1.are.0;
      limits = wrong.1.are.1;
      fault = wrong.1.fault;
    },
  )
