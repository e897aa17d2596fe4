mod Refused
mod TreeFiles
mod Reports
mod Zipped
mod Folders
mod Counts
mod MapBounds
mod ReportRows
