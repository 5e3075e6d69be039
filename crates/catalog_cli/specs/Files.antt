-- The commands on files: what they print, and what they make of the files.
use Rattle.std.specs.Prelude.{◌≡◌, ℕ, ◌+◌, ◌<◌, ◌⊎◌, List, [], ◌∷◌, ◌++◌, Option, IfSome, Some, None, IsSome, codes}
use Rattle.std.specs.Prelude.{decimal, drop, get_or, take}
use Rattle.std.specs.FinMap.{get}
use Rattle.cat_command.specs.Commands.{IsCommand}
use Rattle.cat_command.specs.declared.command.Command.TheVariants.{Format, Run, Words}
use Rattle.cat_text.specs.Shelves.{FileMap, KeepsFiles, SavesFile}
use Rattle.cat_text.specs.WordLines.{word_line}
use Rattle.pm_words.specs.Bytes.{HasNoFault, IsFault, bytes_of, image_in}
use Rattle.pm_words.specs.Images.{Row, fresh_words}
use Rattle.pm_words.specs.Locations.{image_words}
use Rattle.pm_words.specs.declared.layout.Layout.{Layout}
use Rattle.catalog_cli.specs.declared.status.ImageRefusal.TheVariants as image
use Rattle.catalog_cli.specs.declared.status.Status.{Status}
use Rattle.catalog_cli.specs.declared.status.Status.TheVariants as status

-- ---- commands

-- The words of a command that saves a fresh image of this layout as a new file.
abbrev pub Formats : List (List ℕ) → Layout → Type 0
Formats words layout = IsCommand words (Format layout)

-- The words of a command that tells so many words of a file, from one on.
abbrev pub ListsWords : List (List ℕ) → ℕ → ℕ → Type 0
ListsWords words from count = IsCommand words (Words from count)

abbrev pub FormatsSome : List (List ℕ) → Type 0
FormatsSome words = (layout : Layout) × Formats words layout

abbrev pub ListsSome : List (List ℕ) → Type 0
ListsSome words = (from count : ℕ) × ListsWords words from count

-- The words of a command that reads a script, to play it on the catalogue in a file.
abbrev pub RunsScript : List (List ℕ) → Type 0
RunsScript words = IsCommand words Run

-- Some command on a file has these words.
abbrev pub NamesFile : List (List ℕ) → Type 0
NamesFile words = FormatsSome words ⊎ ListsSome words ⊎ RunsScript words

-- The name of its file: its second word.
abbrev pub file_of : List (List ℕ) → List ℕ
file_of words = get_or words 1 []

-- ---- what is printed

-- The line that tells of a fresh image: its layout, and how many words it has.
abbrev pub formatted_line : Layout → List ℕ
formatted_line layout =
    codes "formatted " ++ decimal layout.nodes ++ codes " " ++ decimal layout.slots ++ codes " " ++
    decimal layout.callers ++ codes " words " ++ decimal (image_words layout) ++ codes "\n"

-- A line for each of these words, which have numbers from this one on.
abbrev pub word_lines : ℕ → List ℕ → List ℕ
word_lines from [] = []
word_lines from (word ∷ words) = word_line from word ++ word_lines (from + 1) words

-- The lines of those of the words from this one on that there are, and of so many at most.
abbrev pub lines_told : ℕ → ℕ → List ℕ → List ℕ
lines_told from count words = word_lines from (take count (drop from words))

-- ---- files

-- The shelf has a file of this name with these bytes, as far as it tells its files.
abbrev pub HasBytes : Option FileMap → List ℕ → List ℕ → Type 0
HasBytes files name bytes = IfSome files (λ told. get told name ≡ Some bytes)

-- It has one with some bytes, or none.
abbrev pub HasFile : Option FileMap → List ℕ → Type 0
HasFile files name = IfSome files (λ told. IsSome (get told name))

abbrev pub HasNoFile : Option FileMap → List ℕ → Type 0
HasNoFile files name = IfSome files (λ told. get told name ≡ None)

-- There was no file of this name, it has these bytes now, and no other file changed.
abbrev pub MakesFile : Option FileMap → Option FileMap → List ℕ → List ℕ → Type 0
MakesFile files files' name bytes = HasNoFile files name × SavesFile files files' name bytes

-- The file of this name has the bytes of this image, as far as the shelf tells its files.
pub record HasImage (files : Option FileMap) (name : List ℕ) (image : Row) : Type 0 where
  pub bytes : List ℕ
  pub had : HasBytes files name bytes
  pub sound : HasNoFault bytes
  pub is : image ≡ image_in bytes

-- The file of this name has this image now, and no other file changed.
pub record SavesImage (files files' : Option FileMap) (name : List ℕ) (image : Row) : Type 0 where
  pub bytes : List ℕ
  pub saves : SavesFile files files' name bytes
  pub sound : HasNoFault bytes
  pub is : image ≡ image_in bytes

-- ---- refusals

-- Why a fresh image wasn't saved under this name, and what the shelf has then: as many of its calls had failed before
-- as the first number says, and now as the second.
abbrev pub IsFormatRefused : Option FileMap → Option FileMap → (shelves shelves' : ℕ) → List ℕ → Layout → Status →
    Type 0
IsFormatRefused files files' shelves shelves' name layout status.Shelf = (shelves < shelves') ×
    (KeepsFiles files files' ⊎ MakesFile files files' name (bytes_of (fresh_words layout)))
IsFormatRefused files files' shelves shelves' name layout status.NoMemory = KeepsFiles files files'
IsFormatRefused files files' shelves shelves' name layout (status.Image image.Exists) =
    HasFile files name × KeepsFiles files files'
IsFormatRefused files files' shelves shelves' name layout other = ⊥

-- Why no image is loaded from the file of this name.
abbrev pub IsLoadRefused : Option FileMap → (shelves shelves' : ℕ) → List ℕ → Status → Type 0
IsLoadRefused files shelves shelves' name status.Shelf = shelves < shelves'
IsLoadRefused files shelves shelves' name status.NoMemory = Unit {0}
IsLoadRefused files shelves shelves' name (status.Image image.Missing) = HasNoFile files name
IsLoadRefused files shelves shelves' name (status.Image (image.Bytes fault)) =
    (bytes : List ℕ) × HasBytes files name bytes × IsFault bytes fault
IsLoadRefused files shelves shelves' name other = ⊥

-- Why the file of this name didn't get this image, and what the shelf has then.
abbrev pub IsSaveRefused : Option FileMap → Option FileMap → (shelves shelves' : ℕ) → List ℕ → Row → Status → Type 0
IsSaveRefused files files' shelves shelves' name image status.Shelf = (shelves < shelves') ×
    (KeepsFiles files files' ⊎ SavesImage files files' name image)
IsSaveRefused files files' shelves shelves' name image status.NoMemory = KeepsFiles files files'
IsSaveRefused files files' shelves shelves' name image other = ⊥
