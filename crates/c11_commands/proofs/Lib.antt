pub mod Answering
pub mod CampaignDue
pub mod Judging
pub mod OneDue
pub mod RunDue
pub mod Settings
pub mod WordsLemmas
