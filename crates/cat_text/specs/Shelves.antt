-- Files by name, and what a shelf's calls do to them where they are told.
use Rattle.std.specs.Prelude.{◌≡◌, ℕ, List, map, string_bytes, Option, None, Some, refl}
use Rattle.std.specs.Coded.{Coded, code_by, coded×, coded_list, coded_ℕ}
use Rattle.std.specs.Cmp.Lexicographic.{slice_cmp}
use Rattle.std.specs.FinMap as fin
use Rattle.std.specs.Option.{option_map}
use Rattle.std.specs.Ordering.{nat_cmp}
use Rattle.std.specs.declared.alloc.Global.{Global}
use Rattle.std.specs.declared.string.String.{String}
use Rattle.std.specs.declared.vec.Vec.{Vec}
use Rattle.cat_text.specs.OutsideMemory.{CallPlan}

-- the bytes of each file, by the bytes of its name
abbrev pub FileMap : Type 0
FileMap = fin.FinMap (slice_cmp nat_cmp) (List ℕ)

-- what a load found, as bytes
abbrev pub content : Option (Vec ℕ Global) → Option (List ℕ)
content found = option_map (λ v. v.items) found

-- a load found what is under the name: its bytes, or that there is no such file
abbrev pub Finds : Option FileMap → List ℕ → Option (Vec ℕ Global) → Type 0
Finds None name found = Unit {0}
Finds (Some files) name found = content found ≡ fin.get files name

-- the files stay as they were
abbrev pub KeepsFiles : Option FileMap → Option FileMap → Type 0
KeepsFiles None new = Unit {0}
KeepsFiles (Some files) new = new ≡ Some files

-- the file of this name has these bytes, and no other changed
abbrev pub SavesFile : Option FileMap → Option FileMap → List ℕ → List ℕ → Type 0
SavesFile None new name bytes = Unit {0}
SavesFile (Some files) new name bytes = new ≡ Some (fin.insert files name bytes)

-- a shelf in memory: its files, and the plan by which its calls fail
pub record Cabinet : Type 0 where
  pub files : FileMap
  pub plan : CallPlan

-- it is stored as its fields one after another
abbrev pub cabinet_code : Coded Cabinet
cabinet_code = code_by (FileMap × (ℕ × (ℕ × List ℕ)))
    (coded× (fin.code (coded_list coded_ℕ) (coded_list coded_ℕ)) (coded× coded_ℕ (coded× coded_ℕ (coded_list coded_ℕ))))
    (λ c. (c.files, (c.plan.calls, (c.plan.faults, c.plan.failing))))
    (λ p. record { files = p.0; plan = record { calls = p.1.0; faults = p.1.1.0; failing = p.1.1.1 } })
    (λ _. refl)

-- the files that a tree of names and bytes has
abbrev pub files_in : List (String Global × Vec ℕ Global) → FileMap
files_in entries = fin.from_entries (map (λ (e : String Global × Vec ℕ Global). (string_bytes e.0, e.1.items)) entries)
