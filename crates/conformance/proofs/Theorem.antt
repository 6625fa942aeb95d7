-- All of document 01's starred cases hold, and those of document 02's wishes, by computation on the definitions. Assumes nothing.
use mathlib.Core.Path.{refl}
use lib.Ieee.{of_bits, to_bits, sub, mul, div, le}
use Rattle.ports.specs.Ports.{port_of, port_by}
use Rattle.words.specs.Bytes.{bytes_of}
use Rattle.words.specs.Mask.{masked_of}
use Rattle.rtu.specs.Crc.{crc_bit, crc_bits, crc_byte, crc_from, crc_of}
use Rattle.words.specs.Overlay.{overlay}
use Rattle.rtu.specs.Frame.{checksum_of, framed, body_of, is_good}
use Rattle.words.specs.Digits.{hex_digit}
use Rattle.ascii.specs.Ascii.{sum_of, lrc_of, value_of, digits, hex_of, spelt, ascii_framed, chars_of, decoded_bytes, ascii_body, enclosed, checked, ascii_good}
use Rattle.framing.specs.Framing.{carried_in, framed_in, room_in}
use Rattle.modbus.specs.Request.{read_of, write_one_of, write_many_of, write_mask_of, request_of}
use Rattle.replies.specs.Reply.{read_body, written_body, marked_of, exception_body, reply_of}
use Rattle.floats.specs.Floats.{near, near_minus, finite, float_of, high_word, low_word, same_bits, is_plus_zero}
use Rattle.coefficients.specs.Coefficients.{all_finite, same_coefficients, same_calibration, defaults_of, in_limits}
use Rattle.methods.specs.Methods.{method_of, candidate_of, verdict_of, judged_of}
use Rattle.entries.specs.Entries.{valid_calibration, method_allowed, points_finite, same_points, valid_entry, replaced_by}
use Rattle.journal.specs.Words.{capacity_of, entry_words, number_at, float_at, entry_at}
use Rattle.journal.specs.Layout.{header}
use Rattle.journal.specs.Stores.{begin_words, stores_of, spare_for, append_up_to}
use Rattle.journal.specs.Valid.{valid_header, opening_at, valid_openings, valid_entry_at, chain_of, valid_link, valid_chain, valid_chains, valid_entries, valid}
use Rattle.journal.specs.Journal.{on, firsts, lasts}
use Rattle.recovery.specs.Salvage.{relinked, salvage_of}
use Rattle.journal.specs.Replay.{replay_of, replays}
use Rattle.parameters.specs.Parameters.{quantity_of, level_allowed}
use Rattle.fields.specs.Fields.{owner_bit, owns, holds, exactly, field_at, whole_field, span_of}
use Rattle.sensors.specs.Sensors.{fresh_parameter, fresh_parameters, fresh_setup, fresh_sensor, units_valid, level_valid, valid_parameter, valid_parameters, valid_procedure, valid_setup, valid_sensor}
use Rattle.sensors.specs.Changes.{new_procedure, restarted, calibrated_at, sensor_with_setup}
use Rattle.registers.specs.Registers.{mode_of, shown_coefficients, coefficient_register, head_register, sensor_register, device_register, register_of}
use Rattle.commands.specs.Commands.{updated, commanded}
use Rattle.writes.specs.Writes.{method_written, point_at, with_float, float_written, field_written, write_of, device_written, write_to}
use Rattle.plans.specs.Plans.{target_of, read_plan, write_plan, plan_of}
use Rattle.audit.specs.Audit.{replayed}
use Rattle.state.specs.Sonde.{fresh_counters, incremented, fresh_sonde, powered_sonde, sensor_at, setup_at, with_sensor, with_setup, with_technician, counted_by, address_valid, valid_sonde}
use Rattle.journal.specs.Contents.{journal_of}
use Rattle.columns.specs.Columns.{last, last_or, cells, number, hex, behind, spaced}
use Rattle.columns.specs.Text.{characters}
use Rattle.lines.specs.Lines.{columns_of, line_of, lines_of}
use Rattle.page.specs.Page.{page_of}
use Rattle.page.specs.Print.{printed_on, print_of}
use Rattle.service.specs.Agrees.{openings, same_calibrations, journal_agrees, agrees}
use Rattle.service.specs.Calls.{begin_of, power_up_of}
use Rattle.service.specs.Reads.{device_of, register_at, reading_body}
use Rattle.service.specs.Frame.{arrival_number, sent, write_body, written_by, sonde_after, carried_out, answer_of, left, frame_of, cut_of}
use Rattle.conformance.specs.Cases.{Cases, worked, told, begun_with, begin_told, asked, next, next_by, next_at, next_ascii, next_radio, next_radio_ascii, frame_told, counts_told, in_mode, ten_at_eight, failed, calibrated, one_point, print_told, example_page, salvaged_at, salvage_told, updated_by, turned_away, frame_of_length}

pub cases : Cases
unfolding crc_bit crc_bits crc_byte crc_from crc_of checksum_of framed body_of is_good overlay
    sum_of lrc_of hex_digit value_of digits hex_of spelt ascii_framed chars_of decoded_bytes ascii_body enclosed checked ascii_good port_of port_by carried_in framed_in room_in
    bytes_of read_of write_one_of write_many_of write_mask_of request_of masked_of read_body written_body marked_of exception_body
    of_bits to_bits sub mul div le near near_minus finite float_of high_word low_word same_bits is_plus_zero
    all_finite same_coefficients same_calibration defaults_of in_limits method_of candidate_of verdict_of judged_of
    method_allowed points_finite same_points valid_entry replaced_by capacity_of entry_words number_at float_at entry_at valid_calibration header begin_words stores_of spare_for append_up_to
    valid_header opening_at valid_openings valid_entry_at chain_of valid_link valid_chain valid_chains valid_entries valid replay_of replays
    quantity_of level_allowed owner_bit owns holds exactly field_at whole_field span_of
    new_procedure fresh_parameter fresh_parameters fresh_setup fresh_sensor units_valid level_valid valid_parameter valid_parameters valid_procedure valid_setup valid_sensor restarted calibrated_at sensor_with_setup
    mode_of shown_coefficients coefficient_register head_register sensor_register device_register register_of updated commanded
    method_written point_at with_float float_written field_written write_of device_written write_to target_of read_plan write_plan plan_of
    fresh_counters incremented fresh_sonde powered_sonde replayed sensor_at setup_at with_sensor with_setup with_technician counted_by address_valid valid_sonde
    openings same_calibrations journal_agrees agrees begin_of power_up_of device_of register_at reading_body arrival_number sent write_body written_by sonde_after carried_out answer_of reply_of left frame_of cut_of on firsts lasts relinked salvage_of
    journal_of last last_or cells number hex behind spaced characters columns_of line_of lines_of page_of printed_on print_of
    worked told begun_with begin_told asked next next_by next_at next_ascii next_radio next_radio_ascii frame_told counts_told in_mode ten_at_eight failed calibrated one_point print_told
    example_page salvaged_at salvage_told updated_by turned_away frame_of_length
cases =
    record {
      crc_of_digits = refl;
      two_points_holds = refl;
      slope_accepted = refl;
      slope_worked = refl;
      slope_refused = refl;
      at_the_limit = refl;
      past_the_limit = refl;
      one_point_holds = refl;
      minus_zero = refl;
      mask_updates = refl;
      one_entry_fits = refl;
      too_short = refl;
      last_entry = refl;
      journal_full = refl;
      ascii_updates = refl;
      ascii_full = refl;
      full_after_ascii = refl;
      small_digits = refl;
      small_counted = refl;
      slope_failed = refl;
      slope_shown = refl;
      slope_kept = refl;
      slope_corrected = refl;
      equal_failed = refl;
      equal_kept = refl;
      technician_written = refl;
      technician_masked_holds = refl;
      technician_for_all_holds = refl;
      technician_mismatch = refl;
      technician_gap = refl;
      technician_journalled = refl;
      technician_not_given = refl;
      technician_cleared = refl;
      technician_kept = refl;
      page_printed = refl;
      page_longer = refl;
      page_short = refl;
      page_empty = refl;
      page_unsound = refl;
      cut_at_words = refl;
      cut_at_link = refl;
      cut_at_last = refl;
      cut_at_count = refl;
      cut_beyond = refl;
      port_zero = refl;
      port_three = refl;
      port_three_short = refl;
      radio_short = refl;
      radio_thirty = refl;
      radio_under_thirty = refl;
      serial_thirty = refl;
      radio_for_all = refl;
      radio_for_all_counted = refl;
      radio_updates = refl;
      radio_updates_alike = refl;
      radio_ascii = refl;
      radio_ascii_counted = refl;
      radio_longest = refl;
      radio_longest_counted = refl;
      radio_longer = refl;
      radio_longer_counted = refl;
      serial_longer = refl;
    }
