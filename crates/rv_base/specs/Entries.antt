-- Entries, the newest first, as a finite map.
use Rattle.std.specs.{Prelude.List, Prelude.[], Prelude.◌∷◌, String.string_bytes, FinMap.insert, FinMap.empty}
use Rattle.rv_base.specs.{Shelf.Shelf, declared.entries.Entry.Entry}

-- What the entries hold: of those of one name the newest counts.
abbrev pub shelf_of : List Entry → Shelf
shelf_of [] = empty
shelf_of (entry ∷ entries) = insert (shelf_of entries) (string_bytes entry.name) entry.bytes.items
