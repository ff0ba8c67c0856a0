-- Laws of the judging calls. What users should know: MeansLaws (the second demand), HostsExact (that of the hosts' numbers), ClocksJudged, KeptLaws, CoversExactly, ReadsBack.
pub mod MeansLaws
pub mod ClocksJudged
pub mod KeptLaws
pub mod CoversExactly
pub mod ReadsBack
pub mod RecordLaws
pub mod JudgmentLaws
pub mod HostsExact
pub mod CoversHosts
pub mod ListLaws
pub mod PreparedLaws
pub mod TablesGiven
pub mod ThirteenLaws
