-- The report of two craft that met or parted, at a time.
use Rattle.times.specs.declared.time.Time.{Time}
use Rattle.pages.specs.declared.report.Encounter.{Encounter}
use Rattle.pages.specs.declared.report.Report.{Report}

abbrev pub told_at : Encounter → Time → Report
told_at e t = record { kind = e.kind; lower = e.lower; higher = e.higher; time = t }
