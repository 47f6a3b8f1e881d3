use Rattle.std.proofs.Common.{◌+◌, ◌*◌, length}
use Rattle.fare_line.proofs.reading.cursor.+one_word.Given as goal

abbrev pub decreases-Cursor::one_of : goal.decreases-Cursor::one_of
decreases-Cursor::one_of l = 4 * length l.others.now

abbrev pub decreases-Cursor::first_or_later : goal.decreases-Cursor::first_or_later
decreases-Cursor::first_or_later l = 4 * length l.behind.now + 3

abbrev pub decreases-Cursor::first_or_later-either+arg2 : goal.decreases-Cursor::first_or_later-either+arg2
decreases-Cursor::first_or_later-either+arg2 l = 4 * length l.behind.now + 2

abbrev pub decreases-Cursor::later_word : goal.decreases-Cursor::later_word
decreases-Cursor::later_word l = 4 * length l.others.now + 1
