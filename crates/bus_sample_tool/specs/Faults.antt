-- The texts of faults.
use Rattle.std.specs.Prelude.{ℕ, List, ◌++◌, codes, decimal}
use Rattle.bus_sample.specs.declared.fault.SampleFault.{SampleFault}
use Rattle.bus_sample.specs.declared.fault.SampleFault.TheVariants.{Octets, CutOff, TooMany, Read, ReadsLimit}
use Rattle.bus_sample.specs.declared.fault.SampleFault.TheVariants.{Facts, Write}
use Rattle.bus_sample_tool.specs.Reports.{line}

-- what is wrong
abbrev pub fault_text : SampleFault → List ℕ
fault_text Octets = codes "a sample is 1 to 8 octets"
fault_text (CutOff octet) = codes "octet " ++ decimal octet ++ codes ": sample is cut off"
fault_text TooMany = codes "too many samples"
fault_text Read = codes "read failed"
fault_text ReadsLimit = codes "too many reads"
fault_text Facts = codes "write failed"
fault_text (Write sent) = codes "write failed"

-- the line that reports it
abbrev pub fault_line : SampleFault → List ℕ
fault_line fault = line (codes "port1-sample: " ++ fault_text fault)
