-- What the shelves in memory hold.
use Rattle.std.specs.Prelude.{option_map}
use Rattle.std.specs.BTreeMap.{get_by_text}
use Rattle.irt_io.specs.Files.{Files}
use Rattle.irt_io.specs.Fake.{Script}
use Rattle.irt_io.specs.declared.mem_shelf.MemShelf.{MemShelf}
use Rattle.irt_io.specs.declared.sure_shelf.SureShelf.{SureShelf}

abbrev pub files_of : SureShelf → Files
files_of shelf name = option_map (λ v. v.items) (get_by_text shelf.files name)

abbrev pub held_by : MemShelf → Files
held_by shelf = files_of shelf.shelf

abbrev pub script_of : MemShelf → Script
script_of shelf = shelf.script
