-- How a run ended, by its causes: of the causes no two are given together.
use Rattle.std.proofs.Common.{◌≡◌, ℕ, ◌==◌, ◌<◌, ◌↔◌, T, List, [], ◌∷◌, ◌++◌, length, get_or, refl, sym, ap, subst, ◌∙◌, arith, inl, inr}
use Rattle.std.specs.Prelude.{Option, Some, All, IfSome}
use Rattle.std.specs.Io.KnownBytes.{Appends, Keeps}
use Rattle.std.specs.List.{AllByRecursion}
use Rattle.std.specs.Str.Parse.{digits_value}
use Rattle.std.proofs.lemmas.List.Elements.{recursion_from_All}
use Rattle.cat_command.specs.Commands.{IsCommand}
use Rattle.cat_command.specs.declared.command.Command.{Command}
use Rattle.cat_command.specs.declared.command.Command.TheVariants.{Format, Run, Play, Gen, Words}
use Rattle.cat_script.proofs.ScriptLaws.{one_script, fault_is_no_script, one_fault}
use Rattle.cat_script.specs.Fits.{IsUnfit, FitsCallers, IsUnfitBy}
use Rattle.cat_script.specs.Scripts.{IsScript}
use Rattle.cat_script.specs.declared.fault.ScriptFault.{ScriptFault}
use Rattle.cat_script.specs.declared.fault.ScriptFault.TheVariants as fault
use Rattle.cat_script.specs.declared.line.Reason.{Reason}
use Rattle.cat_script.specs.declared.script.Need.{Need}
use Rattle.cat_script.specs.declared.script.Need.TheVariants.{Caller, Budgets, Nothing}
use Rattle.cat_script.specs.declared.script.Script.{Script}
use Rattle.cat_script.specs.declared.script.ScriptLine.{ScriptLine}
use Rattle.pm_words.specs.declared.layout.Layout.{Layout}
use Rattle.cat_text.specs.Outside.{AppendsPart}
use Rattle.catalog_cli.specs.Headline.{BlamesNoSteady, IsFileCause}
use Rattle.catalog_cli.specs.Files.{FormatsSome, ListsSome, NamesFile, RunsScript}
use Rattle.catalog_cli.specs.Headline.{ReadsScript, NamesCommand, LeavesShelf, LeavesSink, IsRefusalOf, IsScriptCause, IsCauseOf, HasNoReport, HasNoText, IsOfWords, Seen, TellsRefusal, FinishesAccepted, FinishesGenerated, PlaysScript, ReadsSome, GeneratesSome, PlaysSome, Prints, PrintsAll, PrintsPart, ReachesFile, ReadsFile, IsFileCause}
use Rattle.catalog_cli.specs.Reports.{IsAccepted, HasFault, IsRefusedBy}
use Rattle.catalog_cli.specs.Runs.{AreBytesLeft}
use Rattle.catalog_cli.specs.Headline.Prints.{reports, runs, sums_up, makes_file, lists_words}
use Rattle.catalog_cli.specs.declared.status.ImageRefusal.{ImageRefusal}
use Rattle.catalog_cli.specs.declared.status.ImageRefusal.TheVariants as image
use Rattle.cat_text.specs.Shelves.{FileMap, KeepsFiles}
use Rattle.catalog_cli.specs.Refused.{IsOfNoCommand, IsUnread}
use Rattle.catalog_cli.specs.Statuses.{status_of_script}
use Rattle.catalog_cli.specs.declared.status.Status.{Status}
use Rattle.catalog_cli.specs.declared.status.Status.TheVariants as status

-- ---- commands

-- the first letter of a command
abbrev letter : Command → ℕ
letter (Format layout) = 102
letter Run = 114
letter (Play layout) = 112
letter (Gen seed count callers) = 103
letter (Words from count) = 119

abbrev first_letter : List (List ℕ) → ℕ
first_letter words = get_or (get_or words 0 []) 0 0

letter-is : (words : List (List ℕ)) (c : Command) → IsCommand words c → first_letter words ≡ letter c
letter-is words (Format layout) is = ap first_letter is.6
letter-is words Run is = ap first_letter is.2
letter-is words (Play layout) is = ap first_letter is.4
letter-is words (Gen seed count callers) is = ap first_letter is.7
letter-is words (Words from count) is = ap first_letter is.6

-- words that name a command have a form
pub no-form : (words : List (List ℕ)) → NamesCommand words → ((command : Command) → ¬ IsCommand words command) → ⊥
no-form words (inl (inl reads)) none = none (Play reads.0) reads.1
no-form words (inl (inr makes)) none = none (Gen makes.0 makes.1 makes.2) makes.3
no-form words (inr (inl formats)) none = none (Format formats.0) formats.1
no-form words (inr (inr (inl lists))) none = none (Words lists.0 lists.1) lists.2
no-form words (inr (inr (inr ran))) none = none Run ran

-- two commands of the same words begin with one letter
letters : (words : List (List ℕ)) (a b : Command) → IsCommand words a → IsCommand words b → letter a ≡ letter b
letters words a b is is' = sym (letter-is words a is) ∙ letter-is words b is'

-- a command that plays a script makes no calls from a seed
pub not-both : (words : List (List ℕ)) → PlaysScript words → GeneratesSome words → ⊥
not-both words reads makes = subst (λ (n : ℕ). T (n == 112)) (letters words (Play reads.0) (Gen makes.0 makes.1 makes.2) reads.1 makes.3) tt

-- neither is a command on a file
pub no-file-read : (words : List (List ℕ)) → PlaysScript words → NamesFile words → ⊥
no-file-read words reads (inl formats) = subst (λ (n : ℕ). T (n == 112)) (letters words (Play reads.0) (Format formats.0) reads.1 formats.1) tt
no-file-read words reads (inr (inl lists)) = subst (λ (n : ℕ). T (n == 112)) (letters words (Play reads.0) (Words lists.0 lists.1) reads.1 lists.2) tt
no-file-read words reads (inr (inr ran)) = subst (λ (n : ℕ). T (n == 112)) (letters words (Play reads.0) Run reads.1 ran) tt

pub no-file-made : (words : List (List ℕ)) → GeneratesSome words → NamesFile words → ⊥
no-file-made words makes (inl formats) = subst (λ (n : ℕ). T (n == 103)) (letters words (Gen makes.0 makes.1 makes.2) (Format formats.0) makes.3 formats.1) tt
no-file-made words makes (inr (inl lists)) = subst (λ (n : ℕ). T (n == 103)) (letters words (Gen makes.0 makes.1 makes.2) (Words lists.0 lists.1) makes.3 lists.2) tt
no-file-made words makes (inr (inr ran)) = subst (λ (n : ℕ). T (n == 103)) (letters words (Gen makes.0 makes.1 makes.2) Run makes.3 ran) tt

pub not-played : (words : List (List ℕ)) → PlaysSome words → NamesFile words → ⊥
not-played words (inl reads) names = no-file-read words reads names
not-played words (inr makes) names = no-file-made words makes names

-- a command that reads a script makes none from a seed
pub not-read-made : (words : List (List ℕ)) → ReadsSome words → GeneratesSome words → ⊥
not-read-made words (inl plays) makes = not-both words plays makes
not-read-made words (inr ran) makes = no-file-made words makes (inr (inr ran))

-- of the commands on a file no two have the same words
pub not-listed : (words : List (List ℕ)) → FormatsSome words → ListsSome words → ⊥
not-listed words formats lists = subst (λ (n : ℕ). T (n == 102)) (letters words (Format formats.0) (Words lists.0 lists.1) formats.1 lists.2) tt

pub not-formatted : (words : List (List ℕ)) → RunsScript words → FormatsSome words → ⊥
not-formatted words ran formats = subst (λ (n : ℕ). T (n == 114)) (letters words Run (Format formats.0) ran formats.1) tt

pub not-listed-run : (words : List (List ℕ)) → RunsScript words → ListsSome words → ⊥
not-listed-run words ran lists = subst (λ (n : ℕ). T (n == 114)) (letters words Run (Words lists.0 lists.1) ran lists.2) tt

-- a file is read for one of them
pub reads-names : (words : List (List ℕ)) (left : Option (List ℕ)) → ReadsFile words left → NamesFile words
reads-names words left (inl lists) = inr (inl lists)
reads-names words left (inr ran) = inr (inr ran.0)

pub reaches-names : (words : List (List ℕ)) (left : Option (List ℕ)) → ReachesFile words left → NamesFile words
reaches-names words left (inl formats) = inl formats
reaches-names words left (inr reads) = reads-names words left reads

pub not-formatted-read : (words : List (List ℕ)) (left : Option (List ℕ)) → FormatsSome words → ReadsFile words left → ⊥
not-formatted-read words left formats (inl lists) = not-listed words formats lists
not-formatted-read words left formats (inr ran) = not-formatted words ran.0 formats

same-callers : (words : List (List ℕ)) (a b : Layout) → ReadsScript words a → ReadsScript words b → a.callers ≡ b.callers
same-callers words a b is is' =
    sym is.3.callers_are.value ∙ ap (λ (ws : List (List ℕ)). digits_value 10 (get_or ws 3 [])) (sym is.4 ∙ is'.4) ∙ is'.3.callers_are.value

-- ---- scripts

within : {A : Type 0} (P : A → Type 0) (before : List A) (x : A) (after : List A) → AllByRecursion P (before ++ x ∷ after) → P x
within P [] x after all = all.0
within P (y ∷ before) x after all = within P before x after all.1

fits-all : (callers : ℕ) (lines : List ScriptLine) (what : ScriptFault) → IsUnfitBy callers lines what → All (FitsCallers callers) lines → ⊥
fits-all callers lines fault.Bytes is fits = is
fits-all callers lines (fault.Rounds number) is fits = is
fits-all callers lines (fault.Calls number) is fits = is
fits-all callers lines (fault.Scans number) is fits = is
fits-all callers lines (fault.Line number why) is fits =
    within (FitsCallers callers) is.before is.line is.after (subst (AllByRecursion (FitsCallers callers)) is.cut (recursion_from_All (FitsCallers callers) lines fits)) why is.unfit
fits-all callers lines fault.NoMemory is fits = is

one-why : (callers : ℕ) (need : Need) (a b : Reason) → IsUnfit callers need a → IsUnfit callers need b → a ≡ b
one-why callers (Caller number) a b is is' = is.0 ∙ sym is'.0
one-why callers (Budgets count) a b is is' = is.0 ∙ sym is'.0
one-why callers Nothing a b is is' = absurd is

one-line : (callers : ℕ) (before before' : List ScriptLine) (line line' : ScriptLine) (after after' : List ScriptLine) (why why' : Reason) →
    before ++ line ∷ after ≡ before' ++ line' ∷ after' → AllByRecursion (FitsCallers callers) before → AllByRecursion (FitsCallers callers) before' →
    IsUnfit callers line.need why → IsUnfit callers line'.need why' → line ≡ line'
one-line callers [] [] line line' after after' why why' same fits fits' unfit unfit' = cc
one-line callers [] (l ∷ before') line line' after after' why why' same fits fits' unfit unfit' =
    let head : line ≡ l = cc in absurd (fits'.0 why (subst (λ (k : ScriptLine). IsUnfit callers k.need why) head unfit))
one-line callers (l ∷ before) [] line line' after after' why why' same fits fits' unfit unfit' =
    let head : line' ≡ l = cc in absurd (fits.0 why' (subst (λ (k : ScriptLine). IsUnfit callers k.need why') head unfit'))
one-line callers (l ∷ before) (k ∷ before') line line' after after' why why' same fits fits' unfit unfit' =
    let tails : before ++ line ∷ after ≡ before' ++ line' ∷ after' = cc in
    one-line callers before before' line line' after after' why why' tails fits.1 fits'.1 unfit unfit'

one-unfit : (callers : ℕ) (lines : List ScriptLine) (a b : ScriptFault) → IsUnfitBy callers lines a → IsUnfitBy callers lines b → a ≡ b
one-unfit callers lines fault.Bytes b is is' = absurd is
one-unfit callers lines (fault.Rounds number) b is is' = absurd is
one-unfit callers lines (fault.Calls number) b is is' = absurd is
one-unfit callers lines (fault.Scans number) b is is' = absurd is
one-unfit callers lines fault.NoMemory b is is' = absurd is
one-unfit callers lines (fault.Line number why) fault.Bytes is is' = absurd is'
one-unfit callers lines (fault.Line number why) (fault.Rounds number') is is' = absurd is'
one-unfit callers lines (fault.Line number why) (fault.Calls number') is is' = absurd is'
one-unfit callers lines (fault.Line number why) (fault.Scans number') is is' = absurd is'
one-unfit callers lines (fault.Line number why) fault.NoMemory is is' = absurd is'
one-unfit callers lines (fault.Line number why) (fault.Line number' why') is is' =
    let same = one-line callers is.before is'.before is.line is'.line is.after is'.after why why' (sym is.cut ∙ is'.cut)
    (recursion_from_All (FitsCallers callers) is.before is.fitting) (recursion_from_All (FitsCallers callers) is'.before is'.fitting) is.unfit is'.unfit in
    let numbers = is.number_is ∙ ap (λ (l : ScriptLine). l.number) same ∙ sym is'.number_is in
    let whys = one-why callers is'.line.need why why' (subst (λ (l : ScriptLine). IsUnfit callers l.need why) same is.unfit) is'.unfit in
    λ i. fault.Line (numbers i) (whys i)

-- a script that fits has no fault
faultless : (callers : ℕ) (bytes : List ℕ) (script : Script) (what : ScriptFault) → IsScript bytes script → All (FitsCallers callers) script.lines → HasFault callers bytes what → ⊥
faultless callers bytes script what is fits (inl long) = let short = is.short in omega (arith, short, long.1)
faultless callers bytes script what is fits (inr (inl first)) = fault_is_no_script bytes what script first is
faultless callers bytes script what is fits (inr (inr unfit)) =
    fits-all callers script.lines what (subst (λ (s : Script). IsUnfitBy callers s.lines what) (one_script bytes unfit.0 script unfit.1 is) unfit.2) fits

pub one-fault : (callers : ℕ) (bytes : List ℕ) (a b : ScriptFault) → HasFault callers bytes a → HasFault callers bytes b → a ≡ b
one-fault callers bytes a b (inl long) (inl long') = long.0 ∙ sym long'.0
one-fault callers bytes a b (inl long) (inr (inl first)) = let short = first.short in absurd (omega (arith, short, long.1))
one-fault callers bytes a b (inl long) (inr (inr unfit)) = let short = unfit.1.short in absurd (omega (arith, short, long.1))
one-fault callers bytes a b (inr (inl first)) (inl long) = let short = first.short in absurd (omega (arith, short, long.1))
one-fault callers bytes a b (inr (inl first)) (inr (inl first')) = one_fault bytes a b first first'
one-fault callers bytes a b (inr (inl first)) (inr (inr unfit)) = absurd (fault_is_no_script bytes a unfit.0 first unfit.1)
one-fault callers bytes a b (inr (inr unfit)) (inl long) = let short = unfit.1.short in absurd (omega (arith, short, long.1))
one-fault callers bytes a b (inr (inr unfit)) (inr (inl first)) = absurd (fault_is_no_script bytes b unfit.0 first unfit.1)
one-fault callers bytes a b (inr (inr unfit)) (inr (inr unfit')) =
    one-unfit callers unfit'.0.lines a b (subst (λ (s : Script). IsUnfitBy callers s.lines a) (one_script bytes unfit.0 unfit'.0 unfit.1 unfit'.1) unfit.2) unfit'.2

-- a script that is accepted isn't refused
pub unrefused : (callers : ℕ) (bytes : List ℕ) (script : Script) (answer : Status) → IsAccepted callers bytes script → IsRefusedBy callers bytes answer → ⊥
unrefused callers bytes script status.Done is refused = refused
unrefused callers bytes script status.Usage is refused = refused
unrefused callers bytes script (status.Script what) is refused = faultless callers bytes script what is.is_script is.fits refused
unrefused callers bytes script status.Read is refused = refused
unrefused callers bytes script status.Write is refused = refused
unrefused callers bytes script status.Shelf is refused = refused
unrefused callers bytes script status.NoMemory is refused = refused
unrefused callers bytes script (status.Image refusal) is refused = refused

-- bytes are refused in one way
pub one-refusal : (callers : ℕ) (bytes : List ℕ) (a b : Status) → IsRefusedBy callers bytes a → IsRefusedBy callers bytes b → a ≡ b
one-refusal callers bytes status.Done b is is' = absurd is
one-refusal callers bytes status.Usage b is is' = absurd is
one-refusal callers bytes status.Read b is is' = absurd is
one-refusal callers bytes status.Write b is is' = absurd is
one-refusal callers bytes status.Shelf b is is' = absurd is
one-refusal callers bytes status.NoMemory b is is' = absurd is
one-refusal callers bytes (status.Image refusal) b is is' = absurd is
one-refusal callers bytes (status.Script what) status.Done is is' = absurd is'
one-refusal callers bytes (status.Script what) status.Usage is is' = absurd is'
one-refusal callers bytes (status.Script what) status.Read is is' = absurd is'
one-refusal callers bytes (status.Script what) status.Write is is' = absurd is'
one-refusal callers bytes (status.Script what) status.Shelf is is' = absurd is'
one-refusal callers bytes (status.Script what) status.NoMemory is is' = absurd is'
one-refusal callers bytes (status.Script what) (status.Image refusal) is is' = absurd is'
one-refusal callers bytes (status.Script what) (status.Script other) is is' = ap status.Script (one-fault callers bytes what other is is')

-- such a cause is that of a command that reads a script
pub cause-reads : (words : List (List ℕ)) (told : Seen) (answer : Status) → IsScriptCause words told answer → ReadsSome words
cause-reads words told answer (inl plays) = inl (plays.0, plays.1)
cause-reads words told answer (inr run) = inr run.0

pub reads-named : (words : List (List ℕ)) → ReadsSome words → NamesCommand words
reads-named words (inl plays) = inl (inl plays)
reads-named words (inr ran) = inr (inr (inr ran))

-- none is refused as words alone are
pub not-of-words : (callers : ℕ) (left : Option (List ℕ)) (reads reads' : ℕ) (answer : Status) → HasNoReport callers left reads reads' answer → IsOfWords answer → ⊥
not-of-words callers left reads reads' status.Done cause of_words = of_words
not-of-words callers left reads reads' status.Usage cause of_words = cause
not-of-words callers left reads reads' (status.Script what) cause of_words = of_words
not-of-words callers left reads reads' status.Read cause of_words = of_words
not-of-words callers left reads reads' status.Write cause of_words = of_words
not-of-words callers left reads reads' status.Shelf cause of_words = of_words
not-of-words callers left reads reads' status.NoMemory cause of_words = of_words
not-of-words callers left reads reads' (status.Image refusal) cause of_words = of_words

-- why no report was made is why there is nothing to print
pub no-report : (words : List (List ℕ)) (layout : Layout) (told : Seen) (answer : Status) → ReadsScript words layout →
    HasNoReport layout.callers told.left told.reads told.reads' answer → HasNoText words told answer
no-report words layout told status.Done is cause = cause
no-report words layout told status.Usage is cause = absurd cause
no-report words layout told (status.Script what) is cause = inl (layout, is, cause)
no-report words layout told status.Read is cause = (inl (layout, is), cause)
no-report words layout told status.Write is cause = cause
no-report words layout told status.Shelf is cause = absurd cause
no-report words layout told status.NoMemory is cause = inl (inl (layout, is))
no-report words layout told (status.Image refusal) is cause = absurd cause

-- none is made of what is no script
pub unread-no-report : (callers : ℕ) (left : Option (List ℕ)) (reads reads' : ℕ) (answer : Status) → IsUnread left reads reads' answer → HasNoReport callers left reads reads' answer
unread-no-report callers left reads reads' status.Done unread = absurd unread
unread-no-report callers left reads reads' status.Usage unread = absurd unread
unread-no-report callers left reads reads' (status.Script what) (inl long) = inl (ap status.Script long.0, long.1)
unread-no-report callers left reads reads' (status.Script what) (inr first) = inr (first.0, first.1, inr (inl first.2))
unread-no-report callers left reads reads' status.Read unread = unread
unread-no-report callers left reads reads' status.Write unread = absurd unread
unread-no-report callers left reads reads' status.Shelf unread = absurd unread
unread-no-report callers left reads reads' status.NoMemory unread = tt
unread-no-report callers left reads reads' (status.Image refusal) unread = absurd unread

-- nor of a script that doesn't fit
pub unfit-no-report : (callers : ℕ) (left : Option (List ℕ)) (reads reads' : ℕ) (bytes : List ℕ) (answer : Status) → AreBytesLeft left bytes → IsRefusedBy callers bytes answer → HasNoReport callers left reads reads' answer
unfit-no-report callers left reads reads' bytes status.Done source refused = absurd refused
unfit-no-report callers left reads reads' bytes status.Usage source refused = absurd refused
unfit-no-report callers left reads reads' bytes (status.Script what) source refused = inr (bytes, source, refused)
unfit-no-report callers left reads reads' bytes status.Read source refused = absurd refused
unfit-no-report callers left reads reads' bytes status.Write source refused = absurd refused
unfit-no-report callers left reads reads' bytes status.Shelf source refused = absurd refused
unfit-no-report callers left reads reads' bytes status.NoMemory source refused = absurd refused
unfit-no-report callers left reads reads' bytes (status.Image refusal) source refused = absurd refused

-- nor is there for words that name no command
pub no-command : (words : List (List ℕ)) (told : Seen) (answer : Status) → IsOfNoCommand words answer → HasNoText words told answer
no-command words told status.Done cause = cause
no-command words told status.Usage cause = cause
no-command words told (status.Script what) cause = absurd cause
no-command words told status.Read cause = absurd cause
no-command words told status.Write cause = cause
no-command words told status.Shelf cause = absurd cause
no-command words told status.NoMemory cause = absurd cause
no-command words told (status.Image refusal) cause = absurd cause

-- they leave the files as they were
pub no-command-keeps : (words : List (List ℕ)) (told : Seen) (answer : Status) → IsOfNoCommand words answer → KeepsFiles told.files told.files' → LeavesShelf words told answer
no-command-keeps words told status.Done cause keeps = absurd cause
no-command-keeps words told status.Usage cause keeps = keeps
no-command-keeps words told (status.Script what) cause keeps = keeps
no-command-keeps words told status.Read cause keeps = keeps
no-command-keeps words told status.Write cause keeps = absurd cause
no-command-keeps words told status.Shelf cause keeps = absurd cause
no-command-keeps words told status.NoMemory cause keeps = absurd cause
no-command-keeps words told (status.Image refusal) cause keeps = keeps

-- so does a script for which there is no report
pub no-report-keeps : (words : List (List ℕ)) (callers : ℕ) (told : Seen) (answer : Status) → HasNoReport callers told.left told.reads told.reads' answer → KeepsFiles told.files told.files' →
    LeavesShelf words told answer
no-report-keeps words callers told status.Done cause keeps = absurd cause
no-report-keeps words callers told status.Usage cause keeps = keeps
no-report-keeps words callers told (status.Script what) cause keeps = keeps
no-report-keeps words callers told status.Read cause keeps = keeps
no-report-keeps words callers told status.Write cause keeps = absurd cause
no-report-keeps words callers told status.Shelf cause keeps = absurd cause
no-report-keeps words callers told status.NoMemory cause keeps = inl keeps
no-report-keeps words callers told (status.Image refusal) cause keeps = keeps

-- a run that has nothing to print ends so
pub ends-so : (words : List (List ℕ)) (told : Seen) (writes : ℕ) (answer : Status) → HasNoText words told answer → IsCauseOf words told writes writes answer
ends-so words told writes status.Done cause = absurd cause
ends-so words told writes status.Usage cause = cause
ends-so words told writes (status.Script what) cause = cause
ends-so words told writes status.Read cause = cause
ends-so words told writes status.Write cause = absurd cause
ends-so words told writes status.Shelf cause = cause
ends-so words told writes status.NoMemory cause = cause
ends-so words told writes (status.Image refusal) cause = cause

-- and leaves the sink as it was
pub writes-none : (words : List (List ℕ)) (told : Seen) (written : Option (List ℕ)) (answer : Status) → HasNoText words told answer → Keeps written written → LeavesSink words told answer written written
writes-none words told written status.Done cause keeps = absurd cause
writes-none words told written status.Usage cause keeps = keeps
writes-none words told written (status.Script what) cause keeps = keeps
writes-none words told written status.Read cause keeps = keeps
writes-none words told written status.Write cause keeps = absurd cause
writes-none words told written status.Shelf cause keeps = keeps
writes-none words told written status.NoMemory cause keeps = inl keeps
writes-none words told written (status.Image refusal) cause keeps = keeps

-- what is printed is that of a command
pub printed-named : (words : List (List ℕ)) (told : Seen) (text : List ℕ) → Prints words told text → NamesCommand words
printed-named words told text (reports layout bytes reads source report) = inl (inl (layout, reads))
printed-named words told text (runs is run) = inr (inr (inr is))
printed-named words told text (sums_up seed count callers makes sum) = inl (inr (seed, count, callers, makes))
printed-named words told text (makes_file layout is none line) = inr (inl (layout, is))
printed-named words told text (lists_words from count bytes is has image lines) = inr (inr (inl (from, count, is)))

-- a script that doesn't fit is refused for its fault
pub unfit-refused : (callers : ℕ) (bytes : List ℕ) (script : Script) (what : ScriptFault) → IsScript bytes script → IsUnfitBy callers script.lines what → IsRefusedBy callers bytes (status_of_script what)
unfit-refused callers bytes script fault.Bytes is unfit = absurd unfit
unfit-refused callers bytes script (fault.Rounds number) is unfit = absurd unfit
unfit-refused callers bytes script (fault.Calls number) is unfit = absurd unfit
unfit-refused callers bytes script (fault.Scans number) is unfit = absurd unfit
unfit-refused callers bytes script (fault.Line number why) is unfit = inr (inr (script, is, unfit))
unfit-refused callers bytes script fault.NoMemory is unfit = absurd unfit

-- ---- each status, exactly

-- what the report of other bytes and another layout says of these
report-is : (words : List (List ℕ)) (layout told : Layout) (bytes read : List ℕ) (script : Script) (left : Option (List ℕ)) → ReadsScript words layout → ReadsScript words told → left ≡ Some bytes → AreBytesLeft left read →
    IsAccepted told.callers read script → IsAccepted layout.callers bytes script
report-is words layout told bytes read script left reads reads' is source accepted =
    subst (λ n. IsAccepted n bytes script) (same-callers words told layout reads' reads)
    (subst (λ bs. IsAccepted told.callers bs script) (sym (subst (λ l. AreBytesLeft l read) is source)) accepted)

refusal-is : (words : List (List ℕ)) (layout told : Layout) (bytes : List ℕ) (left : Option (List ℕ)) (answer : Status) → ReadsScript words layout → ReadsScript words told → left ≡ Some bytes →
    IsRefusalOf told.callers left answer → IsRefusedBy layout.callers bytes answer
refusal-is words layout told bytes left answer reads reads' is (inl long) =
    subst (IsRefusedBy layout.callers bytes) (sym long.0) (inl (refl, subst (λ l. IfSome l (λ bs. 4194304 < length bs)) is long.1))
refusal-is words layout told bytes left answer reads reads' is (inr refused) =
    subst (λ n. IsRefusedBy n bytes answer) (same-callers words told layout reads' reads)
    (subst (λ bs. IsRefusedBy told.callers bs answer) (sym (subst (λ l. AreBytesLeft l refused.0) is refused.1)) refused.2)

printed-unrefused : (words : List (List ℕ)) (layout : Layout) (bytes text : List ℕ) (told : Seen) (wanted : Status) → ReadsScript words layout → told.left ≡ Some bytes →
    Prints words told text → IsRefusedBy layout.callers bytes wanted → ⊥
printed-unrefused words layout bytes text told wanted is same (reports other read reads source report) refused =
    unrefused layout.callers bytes report.script wanted (report-is words layout other bytes read report.script told.left is reads same source report.accepted) refused
printed-unrefused words layout bytes text told wanted is same (runs run_is run) refused = no-file-read words (layout, is) (inr (inr run_is))
printed-unrefused words layout bytes text told wanted is same (sums_up seed count callers makes sum) refused = not-both words (layout, is) (seed, count, callers, makes)
printed-unrefused words layout bytes text told wanted is same (makes_file other formatted none line) refused = no-file-read words (layout, is) (inl (other, formatted))
printed-unrefused words layout bytes text told wanted is same (lists_words from count read listed has image lines) refused = no-file-read words (layout, is) (inr (inl (from, count, listed)))

-- a file is refused for a command on it
pub file-cause-names : (words : List (List ℕ)) (left : Option (List ℕ)) (files : Option FileMap) (refusal : ImageRefusal) → IsFileCause words left files refusal → NamesFile words
file-cause-names words left files image.Missing cause = reads-names words left cause.0
file-cause-names words left files image.Exists cause = inl cause.0
file-cause-names words left files (image.Bytes fault) cause = reads-names words left cause.0
file-cause-names words left files (image.Damaged rule word) cause = inr (inr cause.0.0)
file-cause-names words left files image.Generations cause = inr (inr cause.0.0)

-- what a script is refused for that is played on an empty catalogue
plays-cause : (words : List (List ℕ)) (told : Seen) (layout : Layout) (bytes : List ℕ) (answer : Status) → ReadsScript words layout → told.left ≡ Some bytes → IsScriptCause words told answer →
    IsRefusedBy layout.callers bytes answer
plays-cause words told layout bytes answer is same (inl cause) = refusal-is words layout cause.0 bytes told.left answer is cause.1 same cause.2
plays-cause words told layout bytes answer is same (inr run) = absurd (no-file-read words (layout, is) (inr (inr run.0)))

pub tells : (words : List (List ℕ)) (told : Seen) (written written' : Option (List ℕ)) (writes writes' : ℕ) (answer : Status) → LeavesSink words told answer written written' →
    IsCauseOf words told writes writes' answer → TellsRefusal words told answer
tells words told written written' writes writes' status.Done sink cause layout bytes wanted is left same refused =
    absurd (printed-unrefused words layout bytes sink.text told wanted is left sink.prints refused)
tells words told written written' writes writes' status.Usage sink cause layout bytes wanted is left same refused = absurd (cause (Play layout) is)
tells words told written written' writes writes' (status.Script what) sink cause layout bytes wanted is left same refused =
    inl (one-refusal layout.callers bytes (status.Script what) wanted (plays-cause words told layout bytes (status.Script what) is left cause) refused)
tells words told written written' writes writes' status.Read sink cause layout bytes wanted is left same refused = absurd (omega (arith, cause.1, same))
tells words told written written' writes writes' status.Write sink cause layout bytes wanted is left same refused =
    absurd (printed-unrefused words layout bytes sink.text told wanted is left sink.prints refused)
tells words told written written' writes writes' status.Shelf sink cause layout bytes wanted is left same refused = absurd (no-file-read words (layout, is) (reaches-names words told.left cause.0))
tells words told written written' writes writes' status.NoMemory sink cause layout bytes wanted is left same refused = inr refl
tells words told written written' writes writes' (status.Image refusal) sink cause layout bytes wanted is left same refused =
    absurd (no-file-read words (layout, is) (file-cause-names words told.left told.files refusal cause))

pub finishes : (words : List (List ℕ)) (told : Seen) (writes writes' : ℕ) (answer : Status) → IsCauseOf words told writes writes' answer → FinishesAccepted words told writes writes' answer
finishes words told writes writes' status.Done cause layout bytes script is left same same' accepted = inl refl
finishes words told writes writes' status.Usage cause layout bytes script is left same same' accepted = absurd (cause (Play layout) is)
finishes words told writes writes' (status.Script what) cause layout bytes script is left same same' accepted =
    absurd (unrefused layout.callers bytes script (status.Script what) accepted (plays-cause words told layout bytes (status.Script what) is left cause))
finishes words told writes writes' status.Read cause layout bytes script is left same same' accepted = absurd (omega (arith, cause.1, same))
finishes words told writes writes' status.Write cause layout bytes script is left same same' accepted = absurd (omega (arith, cause.1, same'))
finishes words told writes writes' status.Shelf cause layout bytes script is left same same' accepted = absurd (no-file-read words (layout, is) (reaches-names words told.left cause.0))
finishes words told writes writes' status.NoMemory cause layout bytes script is left same same' accepted = inr refl
finishes words told writes writes' (status.Image refusal) cause layout bytes script is left same same' accepted =
    absurd (no-file-read words (layout, is) (file-cause-names words told.left told.files refusal cause))

-- a generated round is played to its end
pub finishes-generated : (words : List (List ℕ)) (told : Seen) (writes writes' : ℕ) (answer : Status) → IsCauseOf words told writes writes' answer → FinishesGenerated words writes writes' answer
finishes-generated words told writes writes' status.Done cause makes same = inl refl
finishes-generated words told writes writes' status.Usage cause makes same = absurd (no-form words (inl (inr makes)) cause)
finishes-generated words told writes writes' (status.Script what) cause makes same = absurd (not-read-made words (cause-reads words told (status.Script what) cause) makes)
finishes-generated words told writes writes' status.Read cause makes same = absurd (not-read-made words cause.0 makes)
finishes-generated words told writes writes' status.Write cause makes same = absurd (omega (arith, cause.1, same))
finishes-generated words told writes writes' status.Shelf cause makes same = absurd (no-file-made words makes (reaches-names words told.left cause.0))
finishes-generated words told writes writes' status.NoMemory cause makes same = inr refl
finishes-generated words told writes writes' (status.Image refusal) cause makes same = absurd (no-file-made words makes (file-cause-names words told.left told.files refusal cause))

-- words of no form come to their status
of-no-form : (words : List (List ℕ)) (told : Seen) (writes writes' : ℕ) (answer : Status) → IsCauseOf words told writes writes' answer →
    ((command : Command) → ¬ IsCommand words command) → answer ≡ status.Usage
of-no-form words told writes writes' status.Done cause none = absurd (no-form words cause none)
of-no-form words told writes writes' status.Usage cause none = refl
of-no-form words told writes writes' (status.Script what) cause none = absurd (no-form words (reads-named words (cause-reads words told (status.Script what) cause)) none)
of-no-form words told writes writes' status.Read cause none = absurd (no-form words (reads-named words cause.0) none)
of-no-form words told writes writes' status.Write cause none = absurd (no-form words cause.0 none)
of-no-form words told writes writes' status.Shelf cause none = absurd (no-form words (inr (reaches-names words told.left cause.0)) none)
of-no-form words told writes writes' status.NoMemory cause none = absurd (no-form words cause none)
of-no-form words told writes writes' (status.Image refusal) cause none = absurd (no-form words (inr (file-cause-names words told.left told.files refusal cause)) none)

pub usage-exactly : (words : List (List ℕ)) (told : Seen) (writes writes' : ℕ) (answer : Status) → IsCauseOf words told writes writes' answer →
    (answer ≡ status.Usage) ↔ ((command : Command) → ¬ IsCommand words command)
usage-exactly words told writes writes' answer cause =
    (λ is. subst (IsCauseOf words told writes writes') is cause, of-no-form words told writes writes' answer cause)

-- what is blamed had a call that failed, so it wasn't steady
pub blames-no-steady : (source source' sink sink' shelf shelf' : Type 0) (words : List (List ℕ)) (told : Seen) (writes writes' : ℕ) (answer : Status) → (source → source' × (told.reads' ≡ told.reads)) →
    (sink → sink' × (writes' ≡ writes)) → (shelf → shelf' × (told.shelves' ≡ told.shelves)) →
    IsCauseOf words told writes writes' answer → BlamesNoSteady source sink shelf answer
blames-no-steady source source' sink sink' shelf shelf' words told writes writes' status.Read reads write loads cause = λ calm. let same = (reads calm).1 in let rose = cause.1 in omega (arith, rose, same)
blames-no-steady source source' sink sink' shelf shelf' words told writes writes' status.Write reads write loads cause = λ calm. let same = (write calm).1 in let rose = cause.1 in omega (arith, rose, same)
blames-no-steady source source' sink sink' shelf shelf' words told writes writes' status.Shelf reads write loads cause = λ calm. let same = (loads calm).1 in let rose = cause.1 in omega (arith, rose, same)
blames-no-steady source source' sink sink' shelf shelf' words told writes writes' _ reads write loads cause = tt

-- ---- what is printed

pub printed : (words : List (List ℕ)) (told : Seen) (written written' : Option (List ℕ)) (text sent : List ℕ) → Prints words told text → sent ≡ text → Appends written written' sent →
    PrintsAll words told written written'
printed words told written written' text sent prints same sink = record { text = text; prints = prints; sink = subst (Appends written written') same sink }

pub printed-part : (words : List (List ℕ)) (told : Seen) (written written' : Option (List ℕ)) (text sent : List ℕ) → Prints words told text → sent ≡ text → AppendsPart written written' sent →
    PrintsPart words told written written'
printed-part words told written written' text sent prints same part =
    let of_text = subst (AppendsPart written written') same part in
    record { text = text; count = of_text.0; short = of_text.1; prints = prints; sink = of_text.2 }
