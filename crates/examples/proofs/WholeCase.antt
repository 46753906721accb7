-- The whole case prints what the paper says: one computation, in the room at hand.
use mathlib.Core.Path.{◌≡◌, refl}
use lib.Ieee.{lt, eq, div, mul, of_bits, to_bits, of_int}
use Rattle.lists.specs.Chunks.{tab, joined, at, each, turns, some}
use Rattle.lists.specs.Bytes.{little, from_little}
use Rattle.numbers.specs.Scale.{magnitude, larger, largest_from, largest, scale_of}
use Rattle.numbers.specs.Code.{nearest_whole_of, clamped, code8}
use Rattle.replies.specs.Outcome.{lowest, outcome}
use Rattle.shapes.specs.Format.{layouts, known, whole_groups_of}
use Rattle.shapes.specs.Shape.{cell_bytes_of, scale_words_of, total, limits, within, exact, need_of}
use Rattle.rows.specs.Row.{codings, int8_cells, int8_scales, row_cells, row_scales}
use Rattle.buffers.specs.Write.{put, written_side, written}
use Rattle.buffers.specs.Calls.{appended, removed}
use Rattle.store.specs.Record.{good_lengths, byte_count}
use Rattle.store.specs.Calls.{open_of, append_of, truncate_of, memory_bytes_of}
use Rattle.callfile.specs.Format.{number_at, words, open_at, append_at_of, truncate_at_of, advance_at_of, kind_at, entry_at_of}
use Rattle.arena.specs.Calls.{open_in, append_in_of, truncate_in_of}
use Rattle.printing.specs.Text.{spelled, answer_text_of, spaced, report_text_of}
use Rattle.replay.specs.Step.{report_of, step_of}
use Rattle.replay.specs.Transcript.{walk_from, play_of, transcript}
use Rattle.examples.specs.WholeCase.{file, lines}

pub whole_case : transcript file ≡ lines
unfolding file lines tab joined at each turns some little from_little magnitude larger largest_from largest scale_of nearest_whole_of clamped code8 lowest outcome layouts known whole_groups_of codings cell_bytes_of scale_words_of total limits within exact need_of int8_cells int8_scales row_cells row_scales put written_side written appended removed good_lengths byte_count open_of append_of truncate_of memory_bytes_of number_at words open_at append_at_of truncate_at_of advance_at_of kind_at entry_at_of open_in append_in_of truncate_in_of spelled answer_text_of spaced report_text_of report_of step_of walk_from play_of lt eq div mul of_bits to_bits of_int
whole_case = refl
