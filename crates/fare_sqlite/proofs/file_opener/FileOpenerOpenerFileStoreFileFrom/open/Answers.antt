use Rattle.sqlite_wal.specs.Files.{image_at}
use Rattle.sqlite_store.specs.Laws.{shut_if_dirty_at}
use Rattle.sqlite.specs.Files.{file_state}
use Rattle.fare_sqlite.proofs.FoundFiles.{found_told}
use Rattle.fare_sqlite.proofs.file_opener.FileOpenerOpenerFileStoreFileFrom.open.Goals as goal

pub returns-in-Ok : goal.returns-in-Ok
returns-in-Ok g c = record { found = found_told (file_state c.in-Ok.conn) _ (image_at g.S.Start) g.met.S.FoundFile.held (shut_if_dirty_at c.in-Ok.conn.store) c.in-Ok.ensures.opened c.in-Ok.ensures.found }
