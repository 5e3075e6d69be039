-- How a command on a file ended, by its causes: of the causes no two are given together.
use Rattle.std.proofs.Common.{◌≡◌, ℕ, ◌<◌, ◌⊎◌, true, List, refl, sym, ap, subst, ◌∙◌, arith, inl, inr}
use Rattle.std.specs.Prelude.{Option, Some, None, IsSome, is_some}
use Rattle.std.proofs.lemmas.Option.{same_Some}
use Rattle.cat_script.proofs.ScriptLaws.{fault_is_no_script, one_script}
use Rattle.cat_script.specs.Scripts.{IsFirstFault, IsScript}
use Rattle.cat_script.specs.declared.fault.ScriptFault.{ScriptFault}
use Rattle.cat_script.specs.declared.script.Script.{Script}
use Rattle.cat_text.specs.Shelves.{FileMap}
use Rattle.pm_words.specs.Bytes.{IsFault, image_in}
use Rattle.pm_words.specs.Images.{Row}
use Rattle.pm_words.specs.declared.layout.Layout.{Layout}
use Rattle.image_rules.specs.Lowest.{IsFirst, IsFirstAt}
use Rattle.image_rules.specs.declared.broken.Broken.{Broken}
use Rattle.pm_words.specs.Locations.{Word}
use Rattle.image_layer_rules.specs.Sound.{BreaksAny, IsFirstOfAll, IsSoundByAll}
use Rattle.catalog_cli.specs.Files.{FormatsSome, HasBytes, HasFile, HasImage, HasNoFile, IsLoadRefused, ListsWords, NamesFile, RunsScript, file_of}
use Rattle.catalog_cli.specs.Headline.{CanBeDone, CanBeRun, Comes, FinishesOnFile, HasNoText, IsCauseOf, IsFileCause, IsOfWords, IsScriptCause, LeavesFiles, LeavesOldOrNew, LeavesShelf, LeavesSink, Prints, ReachesFile, ReadsFile, Seen, TellsFile, TellsRunRefusal, TellsSource}
use Rattle.catalog_cli.specs.Headline.Prints.{reports, runs, sums_up, makes_file, lists_words}
use Rattle.catalog_cli.specs.Reports.{HasFault, IsRefusedBy}
use Rattle.catalog_cli.specs.Runs.{AreBytesLeft, HasScript, IsNoScript, IsOpenable, IsRefusedOnFile, IsRunFileCause, IsRunLeft, IsRunOnFile, IsRunRefusal, IsRunRefused, IsTooLate}
use Rattle.catalog_cli.specs.declared.status.ImageRefusal.{ImageRefusal}
use Rattle.catalog_cli.specs.declared.status.ImageRefusal.TheVariants as image
use Rattle.catalog_cli.specs.declared.status.Status.{Status}
use Rattle.catalog_cli.specs.declared.status.Status.TheVariants as status
use Rattle.catalog_cli.proofs.ImageFaults.{one-image-fault}
use Rattle.catalog_cli.proofs.Outcomes.{file-cause-names, no-file-made, no-file-read, no-form, not-formatted, not-formatted-read, not-listed, not-listed-run, one-fault, one-refusal, unrefused}

-- ---- what a shelf has

-- under a name it has one file
one-bytes : (files : FileMap) (name a b : List ℕ) → HasBytes (Some files) name a → HasBytes (Some files) name b → a ≡ b
one-bytes files name a b has has' = same_Some a b (sym has ∙ has')

some-none : (files : FileMap) (name : List ℕ) → HasFile (Some files) name → HasNoFile (Some files) name → ⊥
some-none files name some none = let clash : is_some {T = List ℕ} None ≡ true = subst (λ (o : Option (List ℕ)). is_some o ≡ true) none some in cc

has-some : (files : FileMap) (name bytes : List ℕ) → HasBytes (Some files) name bytes → HasFile (Some files) name
has-some files name bytes has = subst IsSome (sym has) refl

-- and so one image
one-image : (files : FileMap) (name : List ℕ) (a b : Row) → HasImage (Some files) name a → HasImage (Some files) name b → a ≡ b
one-image files name a b has has' = has.is ∙ ap image_in (one-bytes files name has.bytes has'.bytes has.had has'.had) ∙ sym has'.is

image-some : (files : FileMap) (name : List ℕ) (a : Row) → HasImage (Some files) name a → HasFile (Some files) name
image-some files name a has = has-some files name has.bytes has.had

-- or bytes that are none
no-image : (files : FileMap) (name : List ℕ) (a : Row) (fault : _) → HasImage (Some files) name a → ((bytes : List ℕ) × HasBytes (Some files) name bytes × IsFault bytes fault) → ⊥
no-image files name a fault has bad = has.sound fault (subst (λ (bs : List ℕ). IsFault bs fault) (one-bytes files name bad.0 has.bytes bad.1 has.had) bad.2)

-- ---- the first rule that an image breaks

number-at : (l : Layout) (P : ℕ → Word → Type 0) (position a b : ℕ) → IsFirstAt l P position a → IsFirstAt l P position b → a ≡ b
number-at l P position a b first other =
    let not_below : a < b → ⊥ = λ less. other.lowest.1 a less first.lowest.0 in
    let not_above : b < a → ⊥ = λ less. first.lowest.1 b less other.lowest.0 in
    omega (arith, not_below, not_above)

one-first : (l : Layout) (P : ℕ → Word → Type 0) (a b : ℕ) → IsFirst l P (Some a) → IsFirst l P (Some b) → a ≡ b
one-first l P a b first other =
    let not_before : first.0 < other.0 → ⊥ = λ less. other.1.none_before first.0 first.1.lowest.0.word less first.1.lowest.0.holds in
    let not_behind : other.0 < first.0 → ⊥ = λ less. first.1.none_before other.0 other.1.lowest.0.word less other.1.lowest.0.holds in
    let same : first.0 ≡ other.0 = omega (arith, not_before, not_behind) in
    number-at l P other.0 a b (subst (λ (n : ℕ). IsFirstAt l P n a) same first.1) other.1

one-broken : (l : Layout) (words : List ℕ) (a b : Broken) → IsFirstOfAll l words a → IsFirstOfAll l words b → a ≡ b
one-broken l words a b first other =
    let not_below : a.rule < b.rule → ⊥ = λ less. other.no_lower_rule a.rule first.first.0 first.first.1.lowest.0.word less first.first.1.lowest.0.holds in
    let not_above : b.rule < a.rule → ⊥ = λ less. first.no_lower_rule b.rule other.first.0 other.first.1.lowest.0.word less other.first.1.lowest.0.holds in
    let rules : a.rule ≡ b.rule = omega (arith, not_below, not_above) in
    let words_are : a.word ≡ b.word = one-first l (BreaksAny l words b.rule) a.word b.word (subst (λ (n : ℕ). IsFirst l (BreaksAny l words n) (Some a.word)) rules first.first) other.first in
    λ k. record { rule = rules k; word = words_are k }

-- a sound image breaks none
not-broken : (image : Row) (a : Broken) → IsSoundByAll image.layout image.words → IsFirstOfAll image.layout image.words a → ⊥
not-broken image a sound first = sound a.rule first.first.0 first.first.1.lowest.0.word first.first.1.lowest.0.holds

-- ---- why a file is refused

-- a file is refused in one way for a run
one-run-cause : (left left' : Option (List ℕ)) (files : FileMap) (name : List ℕ) (a b : ImageRefusal) → IsRunFileCause left (Some files) name a → IsRunFileCause left' (Some files) name b → a ≡ b
one-run-cause left left' files name image.Missing image.Missing is is' = refl
one-run-cause left left' files name image.Missing image.Exists is is' = absurd is'
one-run-cause left left' files name image.Missing (image.Bytes fault) is is' = absurd (some-none files name (has-some files name is'.0 is'.1) is)
one-run-cause left left' files name image.Missing (image.Damaged rule word) is is' = absurd (some-none files name (image-some files name is'.0 is'.1) is)
one-run-cause left left' files name image.Missing image.Generations is is' = absurd (some-none files name (image-some files name is'.old is'.had) is)
one-run-cause left left' files name image.Exists b is is' = absurd is
one-run-cause left left' files name (image.Bytes fault) image.Missing is is' = absurd (some-none files name (has-some files name is.0 is.1) is')
one-run-cause left left' files name (image.Bytes fault) image.Exists is is' = absurd is'
one-run-cause left left' files name (image.Bytes fault) (image.Bytes other) is is' =
    ap image.Bytes (one-image-fault is.0 fault other is.2 (subst (λ (bs : List ℕ). IsFault bs other) (one-bytes files name is'.0 is.0 is'.1 is.1) is'.2))
one-run-cause left left' files name (image.Bytes fault) (image.Damaged rule word) is is' = absurd (no-image files name is'.0 fault is'.1 is)
one-run-cause left left' files name (image.Bytes fault) image.Generations is is' = absurd (no-image files name is'.old fault is'.had is)
one-run-cause left left' files name (image.Damaged rule word) image.Missing is is' = absurd (some-none files name (image-some files name is.0 is.1) is')
one-run-cause left left' files name (image.Damaged rule word) image.Exists is is' = absurd is'
one-run-cause left left' files name (image.Damaged rule word) (image.Bytes fault) is is' = absurd (no-image files name is.0 fault is.1 is')
one-run-cause left left' files name (image.Damaged rule word) (image.Damaged rule' word') is is' =
    let broken = one-broken is'.0.layout is'.0.words (record { rule = rule; word = word }) (record { rule = rule'; word = word' })
    (subst (λ (r : Row). IsFirstOfAll r.layout r.words (record { rule = rule; word = word })) (one-image files name is.0 is'.0 is.1 is'.1) is.2) is'.2 in
    λ k. image.Damaged ((broken k).rule) ((broken k).word)
one-run-cause left left' files name (image.Damaged rule word) image.Generations is is' =
    absurd (not-broken is'.old (record { rule = rule; word = word }) is'.stops.0
    (subst (λ (r : Row). IsFirstOfAll r.layout r.words (record { rule = rule; word = word })) (one-image files name is.0 is'.old is.1 is'.had) is.2))
one-run-cause left left' files name image.Generations image.Missing is is' = absurd (some-none files name (image-some files name is.old is.had) is')
one-run-cause left left' files name image.Generations image.Exists is is' = absurd is'
one-run-cause left left' files name image.Generations (image.Bytes fault) is is' = absurd (no-image files name is.old fault is.had is')
one-run-cause left left' files name image.Generations (image.Damaged rule word) is is' =
    absurd (not-broken is.old (record { rule = rule; word = word }) is.stops.0
    (subst (λ (r : Row). IsFirstOfAll r.layout r.words (record { rule = rule; word = word })) (one-image files name is'.0 is.old is'.1 is.had) is'.2))
one-run-cause left left' files name image.Generations image.Generations is is' = refl

-- what a file that is read is refused for, it is refused for by a run
as-run : (words : List (List ℕ)) (left : Option (List ℕ)) (files : Option FileMap) (a : ImageRefusal) → (FormatsSome words → ⊥) → IsFileCause words left files a → IsRunFileCause left files (file_of words) a
as-run words left files image.Missing other cause = cause.1
as-run words left files image.Exists other cause = absurd (other cause.0)
as-run words left files (image.Bytes fault) other cause = cause.1
as-run words left files (image.Damaged rule word) other cause = cause.1
as-run words left files image.Generations other cause = cause.1

-- one that isn't to be made is refused for a command that reads it
read-cause : (words : List (List ℕ)) (left : Option (List ℕ)) (files : Option FileMap) (a : ImageRefusal) → IsFileCause words left files a → (FormatsSome words × (a ≡ image.Exists)) ⊎ ReadsFile words left
read-cause words left files image.Missing cause = inr cause.0
read-cause words left files image.Exists cause = inl (cause.0, refl)
read-cause words left files (image.Bytes fault) cause = inr cause.0
read-cause words left files (image.Damaged rule word) cause = inr (inr cause.0)
read-cause words left files image.Generations cause = inr (inr cause.0)

-- a file is refused in one way
one-file-cause : (words : List (List ℕ)) (left left' : Option (List ℕ)) (files : FileMap) (a b : ImageRefusal) → IsFileCause words left (Some files) a → IsFileCause words left' (Some files) b → a ≡ b
one-file-cause words left left' files a b is is' = elim (read-cause words left (Some files) a is) [
  | inl made ↦ elim (read-cause words left' (Some files) b is') [
    | inl made' ↦ made.1 ∙ sym made'.1
    | inr read' ↦ absurd (not-formatted-read words left' made.0 read')
  ]
  | inr read ↦
      let other : FormatsSome words → ⊥ = λ formats. not-formatted-read words left formats read in
      one-run-cause left left' files (file_of words) a b (as-run words left (Some files) a other is) (as-run words left' (Some files) b other is')
]

-- where the source tells its bytes, they are known
source-is : (bytes told : List ℕ) (left : Option (List ℕ)) → left ≡ Some bytes → AreBytesLeft left told → bytes ≡ told
source-is bytes told left same source = subst (λ (l : Option (List ℕ)). AreBytesLeft l told) same source

-- two scripts that the source had are one
one-script-left : (left : Option (List ℕ)) (bytes a b : List ℕ) (script other : Script) → left ≡ Some bytes → AreBytesLeft left a → AreBytesLeft left b → IsScript a script → IsScript b other → script ≡ other
one-script-left left bytes a b script other same source source' is is' =
    let sources = sym (source-is bytes a left same source) ∙ source-is bytes b left same source' in
    one_script b script other (subst (λ (bs : List ℕ). IsScript bs script) sources is) is'

-- an image on which a script's rounds can be played isn't refused
not-openable : (left : Option (List ℕ)) (bytes read : List ℕ) (script : Script) (files : FileMap) (name : List ℕ) (old : Row) (a : ImageRefusal) → left ≡ Some bytes → AreBytesLeft left read → IsScript read script →
    HasImage (Some files) name old → IsOpenable old script.rounds → IsRunFileCause left (Some files) name a → ⊥
not-openable left bytes read script files name old image.Missing same source is had openable cause = some-none files name (image-some files name old had) cause
not-openable left bytes read script files name old image.Exists same source is had openable cause = cause
not-openable left bytes read script files name old (image.Bytes fault) same source is had openable cause = no-image files name old fault had cause
not-openable left bytes read script files name old (image.Damaged rule word) same source is had openable cause =
    not-broken old (record { rule = rule; word = word }) openable.sound
    (subst (λ (r : Row). IsFirstOfAll r.layout r.words (record { rule = rule; word = word })) (one-image files name cause.0 old cause.1 had) cause.2)
not-openable left bytes read script files name old image.Generations same source is had openable cause =
    let images = one-image files name cause.old old cause.had had in
    let scripts = one-script-left left bytes cause.bytes read cause.script script same cause.source source cause.is_script is in
    (subst (λ (r : Row). IsTooLate r script.rounds) images (subst (λ (s : Script). IsTooLate cause.old s.rounds) scripts cause.stops)).1 openable.next

-- a file on which the command can be done isn't refused
not-refused : (words : List (List ℕ)) (told : Seen) (files : FileMap) (refusal : ImageRefusal) → (RunsScript words → TellsSource told) → CanBeDone words told.left (Some files) → IsFileCause words told.left (Some files) refusal → ⊥
not-refused words told files refusal source (inl can) cause = elim (read-cause words told.left (Some files) refusal cause) [
  | inl made ↦ some-none files (file_of words) (subst (λ (r : ImageRefusal). IsFileCause words told.left (Some files) r) made.1 cause).1 can.1
  | inr read ↦ not-formatted-read words told.left can.0 read
]
not-refused words told files refusal source (inr (inr can)) cause =
    not-openable told.left (source can.0).bytes can.1.bytes can.1.script files (file_of words) can.1.old refusal (source can.0).left can.1.source can.1.accepted.is_script can.1.had can.1.openable
    (as-run words told.left (Some files) refusal (not-formatted words can.0) cause)
not-refused words told files image.Missing source (inr (inl can)) cause = some-none files (file_of words) (has-some files (file_of words) can.1.0 can.1.1) cause.1
not-refused words told files image.Exists source (inr (inl can)) cause = not-listed words cause.0 can.0
not-refused words told files (image.Bytes fault) source (inr (inl can)) cause =
    can.1.2 fault (subst (λ (bs : List ℕ). IsFault bs fault) (one-bytes files (file_of words) cause.1.0 can.1.0 cause.1.1 can.1.1) cause.1.2)
not-refused words told files (image.Damaged rule word) source (inr (inl can)) cause = not-listed-run words cause.0.0 can.0
not-refused words told files image.Generations source (inr (inl can)) cause = not-listed-run words cause.0.0 can.0

can-names : (words : List (List ℕ)) (left : Option (List ℕ)) (files : Option FileMap) → CanBeDone words left files → NamesFile words
can-names words left files (inl can) = inl can.0
can-names words left files (inr (inl can)) = inr (inl can.0)
can-names words left files (inr (inr can)) = inr (inr can.0)

-- what was printed is of a file on which the command can be done
printed-on-file : (words : List (List ℕ)) (told : Seen) (text : List ℕ) (files : FileMap) → told.files ≡ Some files → Prints words told text → NamesFile words → CanBeDone words told.left (Some files)
printed-on-file words told text files same (reports layout bytes reads source report) names = absurd (no-file-read words (layout, reads) names)
printed-on-file words told text files same (runs is run) names = inr (inr (
  is,
  record {
    bytes = run.bytes;
    source = run.source;
    old = run.old;
    had = subst (λ (fs : Option FileMap). HasImage fs (file_of words) run.old) same run.had;
    script = run.run.report.script;
    openable = run.run.openable;
    accepted = run.run.report.accepted;
  },
))
printed-on-file words told text files same (sums_up seed count callers makes sum) names = absurd (no-file-made words (seed, count, callers, makes) names)
printed-on-file words told text files same (makes_file layout is none line) names = inl ((layout, is), subst (λ (fs : Option FileMap). HasNoFile fs (file_of words)) same none)
printed-on-file words told text files same (lists_words from count bytes is has sound lines) names =
    inr (inl ((from, count, is), (bytes, subst (λ (fs : Option FileMap). HasBytes fs (file_of words) bytes) same has, sound)))

-- ---- what a run reads

-- they are a script, or none
script-or-none : (bytes : List ℕ) (script : Script) (fault : ScriptFault) → IsScript bytes script → IsNoScript (Some bytes) fault → ⊥
script-or-none bytes script fault is (inl long) = let short = is.short in let over = long.1 in omega (arith, short, over)
script-or-none bytes script fault is (inr first) = fault_is_no_script bytes fault script (subst (λ (bs : List ℕ). IsFirstFault bs fault) (sym first.1) first.2) is

as-fault : (bytes : List ℕ) (fault : ScriptFault) → IsNoScript (Some bytes) fault → HasFault 0 bytes fault
as-fault bytes fault (inl long) = inl long
as-fault bytes fault (inr first) = inr (inl (subst (λ (bs : List ℕ). IsFirstFault bs fault) (sym first.1) first.2))

-- a source that tells its bytes had a script, or none
has-no-script : (left : Option (List ℕ)) (bytes : List ℕ) (fault : ScriptFault) → left ≡ Some bytes → HasScript left → IsNoScript left fault → ⊥
has-no-script left bytes fault same has none =
    let here : HasScript (Some bytes) = subst HasScript same has in
    script-or-none bytes here.1 fault (subst (λ (bs : List ℕ). IsScript bs here.1) (sym here.2) here.3) (subst (λ (l : Option (List ℕ)). IsNoScript l fault) same none)

-- two scripts that it had are one
one-source : (left : Option (List ℕ)) (bytes a b : List ℕ) → left ≡ Some bytes → AreBytesLeft left a → AreBytesLeft left b → a ≡ b
one-source left bytes a b same source other = sym (source-is bytes a left same source) ∙ source-is bytes b left same other

-- a script that can be run on a file isn't refused on it
can-run : (left : Option (List ℕ)) (bytes : List ℕ) (files : FileMap) (name : List ℕ) (answer : Status) → left ≡ Some bytes → CanBeRun left (Some files) name → IsRefusedOnFile left (Some files) name answer → ⊥
can-run left bytes files name answer same can refused =
    let images = one-image files name refused.old can.old refused.had can.had in
    let sources = one-source left bytes refused.bytes can.bytes same refused.source can.source in
    unrefused can.old.layout.callers can.bytes can.script answer can.accepted
    (subst (λ (bs : List ℕ). IsRefusedBy can.old.layout.callers bs answer) sources (subst (λ (r : Row). IsRefusedBy r.layout.callers refused.bytes answer) images refused.stops.1))

-- nor is its source no script
can-read : (left : Option (List ℕ)) (bytes : List ℕ) (files : Option FileMap) (name : List ℕ) (fault : ScriptFault) → left ≡ Some bytes → CanBeRun left files name → IsNoScript left fault → ⊥
can-read left bytes files name fault same can none = has-no-script left bytes fault same (can.bytes, can.script, can.source, can.accepted.is_script) none

refused-has : (left : Option (List ℕ)) (files : Option FileMap) (name : List ℕ) (answer : Status) → IsRefusedOnFile left files name answer → HasScript left
refused-has left files name answer refused = (refused.bytes, refused.script, refused.source, refused.is_script)

on-files : (left : Option (List ℕ)) (files : Option FileMap) (told : FileMap) (name : List ℕ) (answer : Status) → files ≡ Some told → IsRefusedOnFile left files name answer → IsRefusedOnFile left (Some told) name answer
on-files left files told name answer same refused = subst (λ (fs : Option FileMap). IsRefusedOnFile left fs name answer) same refused

-- ---- each status of a command on a file, exactly

-- a run that is refused for its script isn't refused for its file
no-script-cause : (words : List (List ℕ)) (told : Seen) (answer : Status) (files : FileMap) (refusal : ImageRefusal) → told.files ≡ Some files → (RunsScript words → TellsSource told) → IsScriptCause words told answer →
    IsFileCause words told.left (Some files) refusal → ⊥
no-script-cause words told answer files refusal is source (inl plays) refused = no-file-read words (plays.0, plays.1) (file-cause-names words told.left (Some files) refusal refused)
no-script-cause words told answer files refusal is source (inr (run, inl none)) refused = elim (read-cause words told.left (Some files) refusal refused) [
  | inl made ↦ not-formatted words run made.0
  | inr (inl lists) ↦ not-listed-run words run lists
  | inr (inr ran) ↦ has-no-script told.left (source run).bytes none.0 (source run).left ran.1 none.1
]
no-script-cause words told answer files refusal is source (inr (run, inr on_file)) refused =
    not-openable told.left (source run).bytes on_file.bytes on_file.script files (file_of words) on_file.old refusal (source run).left on_file.source on_file.is_script
    (subst (λ (fs : Option FileMap). HasImage fs (file_of words) on_file.old) is on_file.had) on_file.stops.0
    (as-run words told.left (Some files) refusal (not-formatted words run) refused)

pub tells-file : (words : List (List ℕ)) (told : Seen) (written written' : Option (List ℕ)) (writes writes' : ℕ) (answer : Status) → LeavesSink words told answer written written' →
    IsCauseOf words told writes writes' answer → TellsFile words told answer
tells-file words told written written' writes writes' status.Done sink cause files refusal is same source refused =
    absurd (not-refused words told files refusal source (printed-on-file words told sink.text files is sink.prints (file-cause-names words told.left (Some files) refusal refused)) refused)
tells-file words told written written' writes writes' status.Usage sink cause files refusal is same source refused =
    absurd (no-form words (inr (file-cause-names words told.left (Some files) refusal refused)) cause)
tells-file words told written written' writes writes' (status.Script what) sink cause files refusal is same source refused =
    absurd (no-script-cause words told (status.Script what) files refusal is source cause refused)
tells-file words told written written' writes writes' status.Read sink (inl plays, rose) files refusal is same source refused =
    absurd (no-file-read words plays (file-cause-names words told.left (Some files) refusal refused))
tells-file words told written written' writes writes' status.Read sink (inr run, rose) files refusal is same source refused = let kept = (source run).reads in absurd (omega (arith, rose, kept))
tells-file words told written written' writes writes' status.Write sink cause files refusal is same source refused =
    absurd (not-refused words told files refusal source (printed-on-file words told sink.text files is sink.prints (file-cause-names words told.left (Some files) refusal refused)) refused)
tells-file words told written written' writes writes' status.Shelf sink cause files refusal is same source refused = absurd (omega (arith, cause.1, same))
tells-file words told written written' writes writes' status.NoMemory sink cause files refusal is same source refused = inr refl
tells-file words told written written' writes writes' (status.Image other) sink cause files refusal is same source refused =
    inl (ap status.Image (one-file-cause words told.left told.left files other refusal (subst (λ (fs : Option FileMap). IsFileCause words told.left fs other) is cause) refused))

-- a command that can be done on its file isn't refused for a script
not-script-cause : (words : List (List ℕ)) (told : Seen) (answer : Status) (files : FileMap) → told.files ≡ Some files → (RunsScript words → TellsSource told) → IsScriptCause words told answer →
    CanBeDone words told.left (Some files) → ⊥
not-script-cause words told answer files is source (inl plays) can = no-file-read words (plays.0, plays.1) (can-names words told.left (Some files) can)
not-script-cause words told answer files is source (inr run) (inl can) = not-formatted words run.0 can.0
not-script-cause words told answer files is source (inr run) (inr (inl can)) = not-listed-run words run.0 can.0
not-script-cause words told answer files is source (inr (run, inl none)) (inr (inr can)) =
    can-read told.left (source run).bytes (Some files) (file_of words) none.0 (source run).left can.1 none.1
not-script-cause words told answer files is source (inr (run, inr on_file)) (inr (inr can)) =
    can-run told.left (source run).bytes files (file_of words) answer (source run).left can.1 (on-files told.left told.files files (file_of words) answer is on_file)

pub finishes-on-file : (words : List (List ℕ)) (told : Seen) (writes writes' : ℕ) (answer : Status) → IsCauseOf words told writes writes' answer → FinishesOnFile words told writes writes' answer
finishes-on-file words told writes writes' status.Done cause files is same source same' can = inl refl
finishes-on-file words told writes writes' status.Usage cause files is same source same' can = absurd (no-form words (inr (can-names words told.left (Some files) can)) cause)
finishes-on-file words told writes writes' (status.Script what) cause files is same source same' can = absurd (not-script-cause words told (status.Script what) files is source cause can)
finishes-on-file words told writes writes' status.Read (inl plays, rose) files is same source same' can = absurd (no-file-read words plays (can-names words told.left (Some files) can))
finishes-on-file words told writes writes' status.Read (inr run, rose) files is same source same' can = let kept = (source run).reads in absurd (omega (arith, rose, kept))
finishes-on-file words told writes writes' status.Write cause files is same source same' can = absurd (omega (arith, cause.1, same'))
finishes-on-file words told writes writes' status.Shelf cause files is same source same' can = absurd (omega (arith, cause.1, same))
finishes-on-file words told writes writes' status.NoMemory cause files is same source same' can = inr refl
finishes-on-file words told writes writes' (status.Image refusal) cause files is same source same' can =
    absurd (not-refused words told files refusal source can (subst (λ (fs : Option FileMap). IsFileCause words told.left fs refusal) is cause))

-- ---- a script that is refused for a run

runs-file : (words : List (List ℕ)) → RunsScript words → NamesFile words
runs-file words run = inr (inr run)

-- what a run printed is of a script
printed-run : (words : List (List ℕ)) (told : Seen) (text : List ℕ) → RunsScript words → Prints words told text → IsRunOnFile told.left told.files told.files' (file_of words) text
printed-run words told text run (reports layout bytes reads source report) = absurd (no-file-read words (layout, reads) (runs-file words run))
printed-run words told text run (runs is played) = played
printed-run words told text run (sums_up seed count callers makes sum) = absurd (no-file-made words (seed, count, callers, makes) (runs-file words run))
printed-run words told text run (makes_file layout is none line) = absurd (not-formatted words run (layout, is))
printed-run words told text run (lists_words from count bytes is has sound lines) = absurd (not-listed-run words run (from, count, is))

played-has : (left : Option (List ℕ)) (files files' : Option FileMap) (name text : List ℕ) → IsRunOnFile left files files' name text → HasScript left
played-has left files files' name text run = (run.bytes, run.run.report.script, run.source, run.run.report.accepted.is_script)

-- a run that is refused for its file had a script
image-has : (words : List (List ℕ)) (left : Option (List ℕ)) (files : Option FileMap) (refusal : ImageRefusal) → RunsScript words → IsFileCause words left files refusal → HasScript left
image-has words left files refusal run cause = elim (read-cause words left files refusal cause) [
  | inl made ↦ absurd (not-formatted words run made.0)
  | inr (inl lists) ↦ absurd (not-listed-run words run lists)
  | inr (inr ran) ↦ ran.1
]

-- so had one that came to its file
reached-has : (words : List (List ℕ)) (left : Option (List ℕ)) → RunsScript words → ReachesFile words left → HasScript left
reached-has words left run (inl formats) = absurd (not-formatted words run formats)
reached-has words left run (inr (inl lists)) = absurd (not-listed-run words run lists)
reached-has words left run (inr (inr ran)) = ran.1

-- the two ways in which a run is refused for what the source had
run-cause : (words : List (List ℕ)) (told : Seen) (answer : Status) → RunsScript words → IsScriptCause words told answer → IsRunRefusal told.left told.files (file_of words) answer
run-cause words told answer run (inl plays) = absurd (no-file-read words (plays.0, plays.1) (runs-file words run))
run-cause words told answer run (inr cause) = cause.1

module _ (words : List (List ℕ)) (told : Seen) (run : RunsScript words) (bytes : List ℕ) (left : told.left ≡ Some bytes) where
  -- where the source had no script
  refused-first : (fault : ScriptFault) (answer : Status) → IsNoScript (Some bytes) fault → IsRunRefusal told.left told.files (file_of words) answer → Comes answer (status.Script fault)
  refused-first fault answer none (inl other) =
      inl (other.2 ∙ ap status.Script (one-fault 0 bytes other.0 fault (as-fault bytes other.0 (subst (λ (l : Option (List ℕ)). IsNoScript l other.0) left other.1)) (as-fault bytes fault none)))
  refused-first fault answer none (inr refused) = absurd (has-no-script (Some bytes) bytes fault refl (subst HasScript left (refused-has told.left told.files (file_of words) answer refused)) none)

  had-script : (fault : ScriptFault) → IsNoScript (Some bytes) fault → HasScript told.left → ⊥
  had-script fault none has = has-no-script (Some bytes) bytes fault refl (subst HasScript left has) none

  -- where it had one that is refused on the file
  refused-then : (files : FileMap) (wanted answer : Status) → told.files ≡ Some files → IsRefusedOnFile (Some bytes) (Some files) (file_of words) wanted → IsRunRefusal told.left told.files (file_of words) answer →
      Comes answer wanted
  refused-then files wanted answer is refused (inl none) = absurd (had-script none.0 (subst (λ (l : Option (List ℕ)). IsNoScript l none.0) left none.1) (subst HasScript (sym left) (refused-has (Some bytes) (Some files) (file_of words) wanted refused)))
  refused-then files wanted answer is refused (inr other) =
      let images = one-image files (file_of words) other.old refused.old (subst (λ (fs : Option FileMap). HasImage fs (file_of words) other.old) is other.had) refused.had in
      let sources = sym (source-is bytes other.bytes told.left left other.source) ∙ refused.source in
      inl (one-refusal refused.old.layout.callers refused.bytes answer wanted
      (subst (λ (bs : List ℕ). IsRefusedBy refused.old.layout.callers bs answer) sources (subst (λ (r : Row). IsRefusedBy r.layout.callers other.bytes answer) images other.stops.1)) refused.stops.1)

  -- a run that was done wasn't refused
  done-unrefused : (files : FileMap) (text : List ℕ) (wanted : Status) → told.files ≡ Some files → IsRefusedOnFile (Some bytes) (Some files) (file_of words) wanted → IsRunOnFile told.left told.files told.files' (file_of words) text → ⊥
  done-unrefused files text wanted is refused played =
      let images = one-image files (file_of words) refused.old played.old refused.had (subst (λ (fs : Option FileMap). HasImage fs (file_of words) played.old) is played.had) in
      let sources = sym refused.source ∙ source-is bytes played.bytes told.left left played.source in
      unrefused played.old.layout.callers played.bytes played.run.report.script wanted played.run.report.accepted
      (subst (λ (bs : List ℕ). IsRefusedBy played.old.layout.callers bs wanted) sources (subst (λ (r : Row). IsRefusedBy r.layout.callers refused.bytes wanted) images refused.stops.1))

no-script-told : (words : List (List ℕ)) (told : Seen) (written written' : Option (List ℕ)) (writes writes' : ℕ) (answer : Status) → LeavesSink words told answer written written' →
    IsCauseOf words told writes writes' answer → (bytes : List ℕ) (fault : ScriptFault) → RunsScript words → told.left ≡ Some bytes → told.reads' ≡ told.reads → IsNoScript (Some bytes) fault → Comes answer (status.Script fault)
no-script-told words told written written' writes writes' status.Done sink cause bytes fault run left same none =
    absurd (had-script words told run bytes left fault none (played-has told.left told.files told.files' (file_of words) sink.text (printed-run words told sink.text run sink.prints)))
no-script-told words told written written' writes writes' status.Usage sink cause bytes fault run left same none = absurd (no-form words (inr (runs-file words run)) cause)
no-script-told words told written written' writes writes' (status.Script what) sink cause bytes fault run left same none =
    refused-first words told run bytes left fault (status.Script what) none (run-cause words told (status.Script what) run cause)
no-script-told words told written written' writes writes' status.Read sink cause bytes fault run left same none = absurd (omega (arith, cause.1, same))
no-script-told words told written written' writes writes' status.Write sink cause bytes fault run left same none =
    absurd (had-script words told run bytes left fault none (played-has told.left told.files told.files' (file_of words) sink.text (printed-run words told sink.text run sink.prints)))
no-script-told words told written written' writes writes' status.Shelf sink cause bytes fault run left same none =
    absurd (had-script words told run bytes left fault none (reached-has words told.left run cause.0))
no-script-told words told written written' writes writes' status.NoMemory sink cause bytes fault run left same none = inr refl
no-script-told words told written written' writes writes' (status.Image refusal) sink cause bytes fault run left same none =
    absurd (had-script words told run bytes left fault none (image-has words told.left told.files refusal run cause))

on-file-told : (words : List (List ℕ)) (told : Seen) (written written' : Option (List ℕ)) (writes writes' : ℕ) (answer : Status) → LeavesSink words told answer written written' →
    IsCauseOf words told writes writes' answer → (bytes : List ℕ) (files : FileMap) (wanted : Status) → RunsScript words → told.left ≡ Some bytes → told.reads' ≡ told.reads → told.files ≡ Some files →
    told.shelves' ≡ told.shelves → IsRefusedOnFile (Some bytes) (Some files) (file_of words) wanted → Comes answer wanted
on-file-told words told written written' writes writes' status.Done sink cause bytes files wanted run left same is same' refused =
    absurd (done-unrefused words told run bytes left files sink.text wanted is refused (printed-run words told sink.text run sink.prints))
on-file-told words told written written' writes writes' status.Usage sink cause bytes files wanted run left same is same' refused = absurd (no-form words (inr (runs-file words run)) cause)
on-file-told words told written written' writes writes' (status.Script what) sink cause bytes files wanted run left same is same' refused =
    refused-then words told run bytes left files wanted (status.Script what) is refused (run-cause words told (status.Script what) run cause)
on-file-told words told written written' writes writes' status.Read sink cause bytes files wanted run left same is same' refused = absurd (omega (arith, cause.1, same))
on-file-told words told written written' writes writes' status.Write sink cause bytes files wanted run left same is same' refused =
    absurd (done-unrefused words told run bytes left files sink.text wanted is refused (printed-run words told sink.text run sink.prints))
on-file-told words told written written' writes writes' status.Shelf sink cause bytes files wanted run left same is same' refused = absurd (omega (arith, cause.1, same'))
on-file-told words told written written' writes writes' status.NoMemory sink cause bytes files wanted run left same is same' refused = inr refl
on-file-told words told written written' writes writes' (status.Image refusal) sink cause bytes files wanted run left same is same' refused =
    absurd (not-openable told.left bytes refused.bytes refused.script files (file_of words) refused.old refusal left (subst (λ (l : Option (List ℕ)). AreBytesLeft l refused.bytes) (sym left) refused.source) refused.is_script
    refused.had refused.stops.0 (as-run words told.left (Some files) refusal (not-formatted words run) (subst (λ (fs : Option FileMap). IsFileCause words told.left fs refusal) is cause)))

pub tells-run : (words : List (List ℕ)) (told : Seen) (written written' : Option (List ℕ)) (writes writes' : ℕ) (answer : Status) → LeavesSink words told answer written written' →
    IsCauseOf words told writes writes' answer → TellsRunRefusal words told answer
tells-run words told written written' writes writes' answer sink cause = record {
  no_script = no-script-told words told written written' writes writes' answer sink cause;
  on_file = on-file-told words told written written' writes writes' answer sink cause;
}

-- ---- why there is nothing to print

-- words of a file that can't be told
pub not-told : (words : List (List ℕ)) (told : Seen) (from count : ℕ) (name : List ℕ) (answer : Status) → ListsWords words from count → name ≡ file_of words →
    IsLoadRefused told.files told.shelves told.shelves' name answer → HasNoText words told answer
not-told words told from count name status.Done is same refused = absurd refused
not-told words told from count name status.Usage is same refused = absurd refused
not-told words told from count name (status.Script what) is same refused = absurd refused
not-told words told from count name status.Read is same refused = absurd refused
not-told words told from count name status.Write is same refused = absurd refused
not-told words told from count name status.Shelf is same refused = (inr (inl (from, count, is)), refused)
not-told words told from count name status.NoMemory is same refused = inr (inr (inl (from, count, is)))
not-told words told from count name (status.Image image.Missing) is same refused = (inl (from, count, is), subst (HasNoFile told.files) same refused)
not-told words told from count name (status.Image image.Exists) is same refused = absurd refused
not-told words told from count name (status.Image (image.Bytes fault)) is same refused =
    (inl (from, count, is), (refused.0, subst (λ (n : List ℕ). HasBytes told.files n refused.0) same refused.1, refused.2))
not-told words told from count name (status.Image (image.Damaged rule word)) is same refused = absurd refused
not-told words told from count name (status.Image image.Generations) is same refused = absurd refused

-- a run that is refused
run-file-cause : (words : List (List ℕ)) (told : Seen) (refusal : ImageRefusal) → RunsScript words → HasScript told.left → IsRunFileCause told.left told.files (file_of words) refusal → IsFileCause words told.left told.files refusal
run-file-cause words told image.Missing run has cause = (inr (run, has), cause)
run-file-cause words told image.Exists run has cause = absurd cause
run-file-cause words told (image.Bytes fault) run has cause = (inr (run, has), cause)
run-file-cause words told (image.Damaged rule word) run has cause = ((run, has), cause)
run-file-cause words told image.Generations run has cause = ((run, has), cause)

pub not-run : (words : List (List ℕ)) (told : Seen) (name : List ℕ) (answer : Status) → RunsScript words → name ≡ file_of words →
    IsRunRefused told.left told.files name told.reads told.reads' told.shelves told.shelves' answer → HasNoText words told answer
not-run words told name answer run same refused = by_case answer (subst (λ (n : List ℕ). IsRunRefused told.left told.files n told.reads told.reads' told.shelves told.shelves' answer) same refused) where
  by_case : (answer : Status) → IsRunRefused told.left told.files (file_of words) told.reads told.reads' told.shelves told.shelves' answer → HasNoText words told answer
  by_case status.Done refused = absurd refused
  by_case status.Usage refused = absurd refused
  by_case (status.Script what) refused = inr (run, refused)
  by_case status.Read refused = (inr run, refused)
  by_case status.Write refused = absurd refused
  by_case status.Shelf refused = (inr (inr (run, refused.0)), refused.1)
  by_case status.NoMemory refused = inr (inr (inr run))
  by_case (status.Image refusal) refused = run-file-cause words told refusal run refused.0 refused.1

-- it isn't refused as words alone are
pub run-not-of-words : (left : Option (List ℕ)) (files : Option FileMap) (name : List ℕ) (reads reads' shelves shelves' : ℕ) (answer : Status) → IsRunRefused left files name reads reads' shelves shelves' answer → IsOfWords answer → ⊥
run-not-of-words left files name reads reads' shelves shelves' status.Done refused of_words = of_words
run-not-of-words left files name reads reads' shelves shelves' status.Usage refused of_words = refused
run-not-of-words left files name reads reads' shelves shelves' (status.Script what) refused of_words = of_words
run-not-of-words left files name reads reads' shelves shelves' status.Read refused of_words = of_words
run-not-of-words left files name reads reads' shelves shelves' status.Write refused of_words = of_words
run-not-of-words left files name reads reads' shelves shelves' status.Shelf refused of_words = of_words
run-not-of-words left files name reads reads' shelves shelves' status.NoMemory refused of_words = of_words
run-not-of-words left files name reads reads' shelves shelves' (status.Image refusal) refused of_words = of_words

-- and what it leaves
pub run-leaves : (words : List (List ℕ)) (told : Seen) (name : List ℕ) (answer : Status) → RunsScript words → name ≡ file_of words → IsRunRefused told.left told.files name told.reads told.reads' told.shelves told.shelves' answer →
    IsRunLeft told.left told.files told.files' name answer → LeavesShelf words told answer
run-leaves words told name answer run same refused leaves = by_case answer refused (subst (λ (n : List ℕ). IsRunLeft told.left told.files told.files' n answer) same leaves) where
  by_case : (answer : Status) → IsRunRefused told.left told.files name told.reads told.reads' told.shelves told.shelves' answer → IsRunLeft told.left told.files told.files' (file_of words) answer → LeavesShelf words told answer
  by_case status.Done refused leaves = absurd refused
  by_case status.Usage refused leaves = absurd refused
  by_case (status.Script what) refused leaves = leaves
  by_case status.Read refused leaves = leaves
  by_case status.Write refused leaves = absurd refused
  by_case status.Shelf refused (inl kept) = inl kept
  by_case status.Shelf refused (inr after) = inr (inr (run, after))
  by_case status.NoMemory refused leaves = inl leaves
  by_case (status.Image refusal) refused leaves = leaves

-- what is left of the files where a text is made stays so where it can't be written whole
pub left-then : (words : List (List ℕ)) (told : Seen) → LeavesFiles words told → LeavesOldOrNew words told
left-then words told (inl fresh) = inr (inl fresh)
left-then words told (inr (inl ran)) = inr (inr ran)
left-then words told (inr (inr kept)) = inl kept.2
