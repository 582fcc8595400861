-- The faults that the folder and standard output counted.
use Rattle.std.specs.Prelude.{ℕ}
use Rattle.irt_io.specs.declared.folder.FolderShelf.{FolderShelf}
use Rattle.irt_io.specs.declared.stdout.StdSink.{StdSink}

abbrev pub folder_faults : {R : Type 0} → FolderShelf R → ℕ
folder_faults shelf = shelf.faults

abbrev pub stdout_faults : {R : Type 0} → StdSink R → ℕ
stdout_faults sink = sink.faults
